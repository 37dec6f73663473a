-- The replies of the C interface, by what is answered. Where nothing is refused, number and place are 0; where something is, every
-- other field is 0, but for the key that a refused comparison names. The reply on the shorter key tells no refusal.
use Rattle.std.specs.Prelude.{ℕ, List}
use Rattle.refusal.specs.Outcome.{Outcome, given, refused}
use Rattle.refusal.specs.declared.Which.{Which}
use Rattle.field.specs.Scalars.{prime}
use Rattle.quadratic.specs.Quadratic.{quadratic}
use Rattle.key.specs.declared.Counts.{Counts}
use Rattle.evaluation.specs.Evaluate.{Counted}
use Rattle.comparison.specs.Compare.{Answer, same, different, refused_for}
use Rattle.shorter.specs.Shorter.{handed_length}
use Rattle.location.specs.Locate.{Found, same_there, differ_in, refused_as}
use Rattle.morgana.specs.declared.CheckReply.{CheckReply}
use Rattle.morgana.specs.declared.CompareReply.{CompareReply}
use Rattle.morgana.specs.declared.EvaluateReply.{EvaluateReply}
use Rattle.morgana.specs.declared.LocateReply.{LocateReply}
use Rattle.morgana.specs.declared.MoveReply.{MoveReply}
use Rattle.morgana.specs.declared.PriceReply.{PriceReply}
use Rattle.morgana.specs.declared.QuadraticReply.{QuadraticReply}
use Rattle.morgana.specs.declared.ShorterReply.{ShorterReply}

-- check's reply: the counts of an accepted key, with n and n'
abbrev pub check_reply : Outcome Counts → CheckReply
check_reply (given counts) =
    record {
      number = 0;
      place = 0;
      arrays = counts.arrays;
      cells = counts.cells;
      calls = counts.calls;
      rows = counts.rows;
      columns = counts.columns;
    }
check_reply (refused number place) =
    record { number = number; place = place; arrays = 0; cells = 0; calls = 0; rows = 0; columns = 0 }

-- evaluate's reply, and cell's: the last array's values, and the factors
abbrev pub evaluate_reply : Outcome (Counted prime) → EvaluateReply
evaluate_reply (given counted) =
    record {
      number = 0;
      place = 0;
      a = counted.values.a;
      b = counted.values.b;
      c = counted.values.c;
      factors = counted.factors;
    }
evaluate_reply (refused number place) = record { number = number; place = place; a = 0; b = 0; c = 0; factors = 0 }

-- evaluate's reply over the field of p²: u and v of each, and the factors
abbrev pub quadratic_reply : Outcome (Counted quadratic) → QuadraticReply
quadratic_reply (given counted) =
    record {
      number = 0;
      place = 0;
      a_u = counted.values.a.u;
      a_v = counted.values.a.v;
      b_u = counted.values.b.u;
      b_v = counted.values.b.v;
      c_u = counted.values.c.u;
      c_v = counted.values.c.v;
      factors = counted.factors;
    }
quadratic_reply (refused number place) =
    record { number = number; place = place; a_u = 0; a_v = 0; b_u = 0; b_v = 0; c_u = 0; c_v = 0; factors = 0 }

-- the key that a refused comparison names, or that is handed back whole
abbrev pub key_number : Which → ℕ
key_number Which.First = 1
key_number Which.Second = 2
key_number Which.Neither = 0

-- compare's reply, where so many factors were taken: `same` is 1 exactly where the answer is "same" (`same-told` in
-- proofs/Replies.antt)
abbrev pub compare_reply : Answer → ℕ → CompareReply
compare_reply same factors = record { number = 0; place = 0; key = 0; same = 1; factors = factors }
compare_reply different factors = record { number = 0; place = 0; key = 0; same = 0; factors = factors }
compare_reply (refused_for which number place) factors =
    record { number = number; place = place; key = key_number which; same = 0; factors = 0 }

-- shorter's reply: the key that is handed back whole, if one is, and the length of what is handed back
abbrev pub shorter_reply : Which → List ℕ → List ℕ → ShorterReply
shorter_reply which first second = record { key = key_number which; length = handed_length which first second }

-- locate's reply where no cell is answered
abbrev pub no_cell : ℕ → ℕ → ℕ → ℕ → LocateReply
no_cell number place key is_same =
    record {
      number = number;
      place = place;
      key = key;
      same = is_same;
      row = 0;
      column = 0;
      first_a = 0;
      first_b = 0;
      first_c = 0;
      second_a = 0;
      second_b = 0;
      second_c = 0;
    }

-- locate's reply: a row, a column, and the values of the first key and of the second there; `same` is 1 exactly where the answer is "same"
abbrev pub locate_reply : Found → LocateReply
locate_reply same_there = no_cell 0 0 0 1
locate_reply (differ_in row column one other) =
    record {
      number = 0;
      place = 0;
      key = 0;
      same = 0;
      row = row;
      column = column;
      first_a = one.a;
      first_b = one.b;
      first_c = one.c;
      second_a = other.a;
      second_b = other.b;
      second_c = other.c;
    }
locate_reply (refused_as which number place) = no_cell number place (key_number which) 0

-- price's reply: the price in pence
abbrev pub price_reply : Outcome ℕ → PriceReply
price_reply (given pence) = record { number = 0; place = 0; pence = pence }
price_reply (refused number place) = record { number = number; place = place; pence = 0 }

-- move's reply: the copy's length
abbrev pub move_reply : Outcome ℕ → MoveReply
move_reply (given copy) = record { number = 0; place = 0; length = copy }
move_reply (refused number place) = record { number = number; place = place; length = 0 }
