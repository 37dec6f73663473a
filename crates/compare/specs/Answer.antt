-- What compare answers, over either field.
use Rattle.std.specs.Prelude.{ℕ, Result, Ok, Err}
use Rattle.refusal.specs.Number.{number_of}
use Rattle.refusal.specs.declared.PairRefusal.{PairRefusal}
use Rattle.comparison.specs.Compare.{Answer, same, different, refused_for}
use Rattle.compare.specs.declared.Compared.{Compared}
use Rattle.compare.specs.declared.Likeness.{Likeness}

-- what a likeness says
abbrev pub likeness_answer : Likeness → Answer
likeness_answer Likeness.Same = same
likeness_answer Likeness.Different = different

-- what is answered: the likeness, or the key that a refusal is about
abbrev pub compared_answer : Result Compared PairRefusal → Answer
compared_answer (Ok compared) = likeness_answer compared.likeness
compared_answer (Err r) = refused_for r.key (number_of r.refusal.reason) r.refusal.place

-- how many factors were taken for both keys (02, E4); none where the call is refused
abbrev pub compared_factors : Result Compared PairRefusal → ℕ
compared_factors (Ok compared) = compared.factors
compared_factors (Err r) = 0
