-- A sheet is long enough exactly where 31 does not come.
-- On a shorter one it comes, and its place is the length that the key with more arrays needs. On a long enough one the answer is "same"
-- or "different" (`others` of the agreement bound).
use Prim.Native.Nat.{ℕ, ◌+◌, ◌*◌, ◌≤◌, ◌<◌, max}
use mathlib.Core.List.{List}
use mathlib.Core.Path.{◌≡◌, ap, ap₂, ◌∙◌}
use native.Mathlib.Decide.{dec_le}
use native.Mathlib.Omega.{arith}
use lib.ListN.{length}
use Rattle.refusal.specs.Number.{number_of}
use Rattle.refusal.specs.Outcome.{given, refuse}
use Rattle.refusal.specs.declared.Reason.{Reason}
use Rattle.refusal.specs.declared.Which.{Which}
use Rattle.field.specs.Scalars.{Scalars, Lawful}
use Rattle.key.specs.Check.{checked_key}
use Rattle.key.specs.KeyArrays.{key_arrays}
use Rattle.key.specs.declared.Counts.{Counts}
use Rattle.judge.specs.Judged.{together, pair_judged}
use Rattle.judge.proofs.KeysTogether.{pair-short}
use Rattle.evaluation.specs.Sheet.{places_of}
use Rattle.evaluation.proofs.EvaluatePromises.{arrays-counted}
use Rattle.comparison.specs.AgreementBound.{Point, LongEnough, answer_at}
use Rattle.comparison.specs.Compare.{Comparison, refused_for}
use Rattle.comparison.proofs.CompareCases.{neither-refused}
use Rattle.comparison.proofs.EnoughForBoth.{fewer}
use Rattle.comparison.proofs.SameWhereExtensionsAgree.{rows_of, columns_of, point-parts}

module _ (𝓢 : Scalars) (𝓛 : Lawful 𝓢) (first second : List ℕ) (one other : Counts) (accepts : checked_key first ≡ given one)
    (accepts' : checked_key second ≡ given other) where
  abbrev N : ℕ
  N = (together one other).rows

  abbrev needed : ℕ
  needed = places_of 𝓢 * max (length (key_arrays first)) (length (key_arrays second))

  module _ (point : List ℕ) (at : Point 𝓢 (N + (together one other).columns) point) (sheet : List ℕ)
      (short : LongEnough 𝓢 first second sheet → ⊥) where
    too_few : length sheet < needed
    too_few = go (dec_le needed (length sheet))
      where
        go : Dec (needed ≤ length sheet) → length sheet < needed
        go (yes enough) = absurd (short (record {
          for_first = fewer (places_of 𝓢) _ _ (length sheet) (omega arith) enough;
          for_second = fewer (places_of 𝓢) _ _ (length sheet) (omega arith) enough;
        }))
        go (no few) = omega arith

    judged : pair_judged 𝓢.width (rows_of 𝓢 N point) (columns_of 𝓢 N point) (length sheet) one other ≡ refuse Reason.SheetTooShort needed
    judged =
        let full : places_of 𝓢 * (together one other).arrays ≡ needed =
        ap (λ (m : ℕ). places_of 𝓢 * m) (ap₂ max (arrays-counted first one accepts) (arrays-counted second other accepts')) in
        pair-short 𝓢.width (rows_of 𝓢 N point) (columns_of 𝓢 N point) one other
        (point-parts 𝓢 𝓛 first second one other accepts accepts' point at) (length sheet) (omega (arith, too_few, full))
        ∙ ap (refuse Reason.SheetTooShort) full

    pub short-refused : answer_at 𝓢 N first second point sheet
        ≡ refused_for Which.Neither (number_of Reason.SheetTooShort)
        (places_of 𝓢 * max (length (key_arrays first)) (length (key_arrays second)))
    short-refused =
        ap (λ (x : Comparison). x.answer)
        (neither-refused 𝓢 first second (rows_of 𝓢 N point) (columns_of 𝓢 N point) sheet one accepts other accepts' _ _ judged)
