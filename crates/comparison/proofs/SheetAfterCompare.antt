-- The sheet after compare place by place, where nothing is refused.
-- It holds the second key's numbers, beyond them the first key's, and behind both what was there.
use Prim.Native.Nat.{ℕ, ◌+◌, ◌*◌, ◌≤◌, ◌<◌}
use mathlib.Core.List.{List}
use mathlib.Core.Path.{◌≡◌, refl, ap, ◌∙◌}
use native.Mathlib.Nat.{mul-le-mul_left}
use native.Mathlib.Omega.{arith}
use lib.ListN.{length, get_or}
use Rattle.refusal.specs.Outcome.{given}
use Rattle.field.specs.Scalars.{Scalars, Lawful}
use Rattle.key.specs.Check.{checked_key}
use Rattle.key.specs.KeyArrays.{key_arrays}
use Rattle.key.specs.declared.Counts.{Counts}
use Rattle.judge.specs.Judged.{pair_judged}
use Rattle.judge.proofs.NothingRefused.{point-of}
use Rattle.evaluation.specs.Evaluate.{values_at}
use Rattle.evaluation.specs.Sheet.{words_of, places_of}
use Rattle.evaluation.proofs.SheetAfterEvaluate.{place-given, place-behind}
use Rattle.comparison.specs.Compare.{Comparison, compared}
use Rattle.comparison.specs.Filled.{used, own_sheet}
use Rattle.comparison.specs.Inner.{Serves}
use Rattle.comparison.proofs.CompareCases.{both-evaluated}
use Rattle.comparison.proofs.PairNotRefused.{BothServed}
use Rattle.comparison.proofs.TwoPasses.{served, middle-length}
use Rattle.comparison.proofs.UsedCoordinates.{used-point}

-- the numbers of array i of a key at the coordinates that it uses
abbrev pub own_words : Scalars → List ℕ → Counts → List ℕ → List ℕ → ℕ → List ℕ
own_words 𝓢 key own rows columns i =
    words_of 𝓢 (values_at 𝓢 (key_arrays key) (used 𝓢 own.rows rows) (used 𝓢 own.columns columns) i)

-- one key, evaluated at them
module _ (𝓢 : Scalars) (𝓛 : Lawful 𝓢) (key : List ℕ) (own : Counts) (accepts : checked_key key ≡ given own) (rows columns : List ℕ)
    (places : ℕ) (serves : Serves 𝓢 own rows columns places) (sheet : List ℕ) (lent : length sheet ≡ places) where
  stands : (i j : ℕ) → i < own.arrays → j < places_of 𝓢 →
      get_or (own_sheet 𝓢 key own rows columns sheet) (places_of 𝓢 * i + j) 0 ≡ get_or (own_words 𝓢 key own rows columns i) j 0
  stands =
      place-given 𝓢 key _ _ sheet own accepts
      (point-of 𝓢.width _ _ own (used-point 𝓢 𝓛 key own accepts rows columns places serves)) (omega (arith, serves.room)) 𝓛

  stays : (k : ℕ) → places_of 𝓢 * own.arrays ≤ k → get_or (own_sheet 𝓢 key own rows columns sheet) k 0 ≡ get_or sheet k 0
  stays =
      place-behind 𝓢 key _ _ sheet own accepts
      (point-of 𝓢.width _ _ own (used-point 𝓢 𝓛 key own accepts rows columns places serves)) (omega (arith, serves.room)) 𝓛

module _ (𝓢 : Scalars) (𝓛 : Lawful 𝓢) (first second rows columns sheet : List ℕ) (one other both : Counts)
    (accepts : checked_key first ≡ given one) (accepts' : checked_key second ≡ given other)
    (admits : pair_judged 𝓢.width rows columns (length sheet) one other ≡ given both) where
  middle : List ℕ
  middle = own_sheet 𝓢 first one rows columns sheet

  serves : BothServed 𝓢 𝓛 first second one other accepts accepts' rows columns (length sheet) both
  serves = served 𝓢 𝓛 first second rows columns sheet one other both accepts accepts' admits

  at : (k : ℕ) → get_or (compared 𝓢 first second rows columns sheet).sheet k 0 ≡ get_or (own_sheet 𝓢 second other rows columns middle) k 0
  unfolding middle
  at k =
      ap (λ (x : Comparison). get_or x.sheet k 0)
      (both-evaluated 𝓢 first second rows columns sheet one accepts other accepts' both admits)

  long : length middle ≡ length sheet
  unfolding middle
  long = middle-length 𝓢 𝓛 first second rows columns sheet one other both accepts accepts' admits

  pub second-stands : (i j : ℕ) → i < other.arrays → j < places_of 𝓢 →
      get_or (compared 𝓢 first second rows columns sheet).sheet (places_of 𝓢 * i + j) 0 ≡ get_or (own_words 𝓢 second other rows columns i) j 0
  second-stands i j l m =
      at (places_of 𝓢 * i + j)
      ∙ stands 𝓢 𝓛 second other accepts' rows columns (length sheet) serves.second-serves middle long i j l m

  second-stays : (k : ℕ) → places_of 𝓢 * other.arrays ≤ k →
      get_or (compared 𝓢 first second rows columns sheet).sheet k 0 ≡ get_or middle k 0
  second-stays k l = at k ∙ stays 𝓢 𝓛 second other accepts' rows columns (length sheet) serves.second-serves middle long k l

  pub first-beyond : (i j : ℕ) → other.arrays ≤ i → i < one.arrays → j < places_of 𝓢 →
      get_or (compared 𝓢 first second rows columns sheet).sheet (places_of 𝓢 * i + j) 0 ≡ get_or (own_words 𝓢 first one rows columns i) j 0
  unfolding middle
  first-beyond i j l m b =
      second-stays (places_of 𝓢 * i + j) (omega (arith, mul-le-mul_left (places_of 𝓢) l))
      ∙ stands 𝓢 𝓛 first one accepts rows columns (length sheet) serves.first-serves sheet refl i j m b

  pub behind-both : (k : ℕ) → places_of 𝓢 * one.arrays ≤ k → places_of 𝓢 * other.arrays ≤ k →
      get_or (compared 𝓢 first second rows columns sheet).sheet k 0 ≡ get_or sheet k 0
  unfolding middle
  behind-both k l m =
      second-stays k m
      ∙ stays 𝓢 𝓛 first one accepts rows columns (length sheet) serves.first-serves sheet refl k l
