-- What compare answers, and what it leaves on the sheet (01, 'Comparing two keys'; 02, E4 and E7).
use Rattle.std.specs.Prelude.{ℕ, ◌+◌, ◌*◌, ◌≤◌, Bool, true, false, cond, ◌&&◌, List, [], ◌∷◌, ◌≡◌, eqb, length}
use Rattle.refusal.specs.Outcome.{Outcome, given, refused}
use Rattle.refusal.specs.declared.Which.{Which}
use Rattle.field.specs.Scalars.{Scalars}
use Rattle.key.specs.Check.{checked_key}
use Rattle.key.specs.Factors.{limit_of}
use Rattle.key.specs.declared.Counts.{Counts}
use Rattle.judge.specs.Judged.{together, pair_judged}
use Rattle.evaluation.specs.Evaluate.{ValuesOf}
use Rattle.evaluation.specs.Sheet.{words_of}
use Rattle.comparison.specs.Filled.{filled_values, filled_factors, own_sheet}

-- "same", "different", or the key that a refusal names, with the refusal's number and place
pub data Answer : Type 0 where
  same : Answer
  different : Answer
  refused_for : Which → ℕ → ℕ → Answer

-- what a call answers, with how many factors were taken, and its sheet afterwards
pub record Comparison : Type 0 where
  pub answer : Answer
  pub factors : ℕ
  pub sheet : List ℕ

-- A judgement. Where it refuses, the call answers so and names this key, or neither, with no factors, and the sheet is as it was;
-- else `next` goes on.
unfoldable pub naming : Which → Outcome Counts → List ℕ → (Counts → Comparison) → Comparison
naming which (refused number place) sheet next = record { answer = refused_for which number place; factors = 0; sheet = sheet }
naming which (given counts) sheet next = next counts

-- are the numbers of two lists equal, one by one?
unfoldable pub same_numbers : List ℕ → List ℕ → Bool
same_numbers [] [] = true
same_numbers [] (y ∷ ys) = false
same_numbers (x ∷ xs) [] = false
same_numbers (x ∷ xs) (y ∷ ys) = eqb x y && same_numbers xs ys

-- "same" if all the numbers of A, B and C are equal, else "different"
unfoldable pub likeness : (𝓢 : Scalars) → ValuesOf 𝓢 → ValuesOf 𝓢 → Answer
likeness 𝓢 one other = cond (same_numbers (words_of 𝓢 one) (words_of 𝓢 other)) same different

-- The first key's refusals come first, then the second's. The numbers compared are those that evaluate answers for the first key
-- and for the second, each at its own coordinates, which demand 2 fixes: the extensions of their last arrays' dense matrices. Each is
-- multiplied by eq([0]) of the coordinates that its key doesn't use. The factors are both keys', with "same" and with "different". The
-- sheet ends as if the first key and then the second had been evaluated on it.
abbrev pub compared : Scalars → List ℕ → List ℕ → List ℕ → List ℕ → List ℕ → Comparison
compared 𝓢 first second rows columns sheet =
    naming Which.First (checked_key first) sheet (λ one.
    naming Which.Second (checked_key second) sheet (λ other.
    naming Which.Neither (pair_judged 𝓢.width rows columns (length sheet) one other) sheet (λ both.
    record {
      answer = likeness 𝓢 (filled_values 𝓢 first one rows columns) (filled_values 𝓢 second other rows columns);
      factors = filled_factors first one both.rows both.columns + filled_factors second other both.rows both.columns;
      sheet = own_sheet 𝓢 second other rows columns (own_sheet 𝓢 first one rows columns sheet);
    })))

-- what the factors for two keys of these counts are at most: (N + N')·(cells + calls), of both, and N + N' more for each key
abbrev pub both_limit : Counts → Counts → ℕ
both_limit one other =
    let both = together one other in
    limit_of both + 2 * (both.rows + both.columns)

-- so many factors for two keys are within that, where both are accepted
abbrev pub BothLimited : List ℕ → List ℕ → ℕ → Type 0
BothLimited first second factors =
    (one other : Counts) → checked_key first ≡ given one → checked_key second ≡ given other → factors ≤ both_limit one other
