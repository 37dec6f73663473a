-- Compare leaves the sheet as long as it was. So one long enough sheet may be lent to the comparisons at several points one after another,
-- each getting it as the one before left it.
use Prim.Native.Nat.{ℕ, zero, suc, ◌+◌, ◌*◌}
use mathlib.Core.List.{List}
use mathlib.Core.Path.{◌≡◌, refl, ◌∙◌}
use lib.ListN.{length, take, drop}
use Rattle.refusal.specs.Outcome.{Outcome, given, refused}
use Rattle.refusal.specs.declared.Which.{Which}
use Rattle.field.specs.Scalars.{Scalars}
use Rattle.key.specs.Check.{checked_key}
use Rattle.key.specs.declared.Counts.{Counts}
use Rattle.judge.specs.Judged.{pair_judged}
use Rattle.evaluation.specs.Evaluate.{ValuesOf, Counted, concluded}
use Rattle.evaluation.specs.Sheet.{words_of}
use Rattle.evaluation.proofs.WordsOnSheet.{laid-length}
use Rattle.comparison.specs.AgreementBound.{LongEnough}
use Rattle.comparison.specs.Compare.{Comparison, naming, compared}
use Rattle.comparison.specs.Filled.{own_sheet}
use Rattle.comparison.specs.SeveralPoints.{point_at, SheetsInTurn}

concluded-length : (𝓢 : Scalars) (o : Outcome Counts) (last : Counts → Counted 𝓢) (each : Counts → ℕ → ValuesOf 𝓢) (sheet : List ℕ) →
    length (concluded 𝓢 o last each sheet).sheet ≡ length sheet
unfolding concluded
concluded-length 𝓢 (refused number place) last each sheet = refl
concluded-length 𝓢 (given counts) last each sheet = laid-length 0 (λ i. words_of 𝓢 (each counts i)) counts.arrays sheet

naming-length : (which : Which) (o : Outcome Counts) (sheet : List ℕ) (next : Counts → Comparison) →
    ((counts : Counts) → length (next counts).sheet ≡ length sheet) → length (naming which o sheet next).sheet ≡ length sheet
unfolding naming
naming-length which (refused number place) sheet next same = refl
naming-length which (given counts) sheet next same = same counts

pub compared-length : (𝓢 : Scalars) (first second rows columns sheet : List ℕ) →
    length (compared 𝓢 first second rows columns sheet).sheet ≡ length sheet
compared-length 𝓢 first second rows columns sheet =
    naming-length Which.First (checked_key first) sheet _ (λ one.
    naming-length Which.Second (checked_key second) sheet _ (λ other.
    naming-length Which.Neither (pair_judged 𝓢.width rows columns (length sheet) one other) sheet _ (λ both.
    concluded-length 𝓢 _ _ _ (own_sheet 𝓢 first one rows columns sheet) ∙ concluded-length 𝓢 _ _ _ sheet)))

module _ (𝓢 : Scalars) (N N' : ℕ) (first second : List ℕ) (sheet : List ℕ) where
  -- the sheet that comparison i gets: at first `sheet`, then what the comparison before left
  unfoldable pub handed_on : List ℕ → ℕ → List ℕ
  handed_on points zero = sheet
  handed_on points (suc i) =
      let point = point_at 𝓢 (N + N') points i in
      (compared 𝓢 first second (take (𝓢.width * N) point) (drop (𝓢.width * N) point) (handed_on points i)).sheet

  pub handed-length : (points : List ℕ) (i : ℕ) → length (handed_on points i) ≡ length sheet
  unfolding handed_on
  handed-length points zero = refl
  handed-length points (suc i) = compared-length 𝓢 first second _ _ (handed_on points i) ∙ handed-length points i

  unfoldable pub handed-on : (count : ℕ) → LongEnough 𝓢 first second sheet → SheetsInTurn 𝓢 (N + N') count first second
  handed-on count long =
      record {
        lent = handed_on;
        long_enough = λ points are i l.
            record { for_first = rw (handed-length points i) long.for_first; for_second = rw (handed-length points i) long.for_second };
      }
