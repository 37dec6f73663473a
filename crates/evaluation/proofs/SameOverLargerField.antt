-- At a point of the field of p evaluation over a larger field answers what it answers over that of p: there the map from one field to
-- the other respects the operations, and so extensions.
use Prim.Native.Nat.{ℕ, zero, suc, ◌*◌, ◌≤◌}
use mathlib.Core.List.{List, [], ◌∷◌, map, flat_map}
use mathlib.Core.Path.{◌≡◌, refl, sym, ap, ap₂, ◌∙◌}
use native.Mathlib.Nat.{mul-zero, mul-suc, one-mul}
use native.Mathlib.Omega.{arith}
use lib.ListN.{length, take, length-append}
use Rattle.refusal.specs.Outcome.{given}
use Rattle.refusal.proofs.Outcomes.{given-injective}
use Rattle.algebra.specs.Points.{Below}
use Rattle.algebra.proofs.CoordinatesBelow.{below-append}
use Rattle.field.specs.Fp.{p, fp}
use Rattle.field.specs.Scalars.{Scalars, prime, Lawful}
use Rattle.multilinear.specs.Extension.{extension}
use Rattle.multilinear.proofs.Maps.{extension-map}
use Rattle.arrays.specs.Arrays.{Array, array_at}
use Rattle.arrays.proofs.Parts.{value-by, values_same}
use Rattle.key.specs.Check.{checked_key}
use Rattle.key.specs.KeyArrays.{key_arrays}
use Rattle.key.specs.declared.Counts.{Counts}
use Rattle.judge.specs.Judged.{point_judged}
use Rattle.judge.proofs.JudgementsInOrder.{given-known}
use Rattle.judge.proofs.NothingRefused.{PointOf, point-of, point-gives}
use Rattle.evaluation.specs.Embedded.{same_numbers_in, same_values_in, same_counted_in}
use Rattle.evaluation.specs.Evaluate.{last_of, dense_of, ValuesOf, Counted, values_at, last_values, counted_for, evaluated}
use Rattle.evaluation.specs.Sheet.{words_of, places_of, laid}
use Rattle.evaluation.proofs.EvaluatePromises.{answered, arrays-counted}
use Rattle.evaluation.proofs.SheetAfterEvaluate.{answer-given, sheet-given}
use Rattle.evaluation.proofs.WordsOnSheet.{laid_same}

take-map : {X Y : Type 0} (f : X → Y) (k : ℕ) (xs : List X) → take k (map f xs) ≡ map f (take k xs)
take-map f zero xs = refl
take-map f (suc k) [] = refl
take-map {X} {Y} f (suc k) (x ∷ xs) = ap (λ (ys : List Y). f x ∷ ys) (take-map f k xs)

module _ (𝓢 : Scalars) (𝓛 : Lawful 𝓢) where
  pub elements_same : (numbers : List ℕ) → 𝓢.elements (same_numbers_in 𝓢 numbers) ≡ map 𝓢.embed numbers
  unfolding flat_map
  elements_same [] = 𝓛.none_made
  elements_same (x ∷ numbers) =
      𝓛.made_again (𝓢.embed x) (same_numbers_in 𝓢 numbers)
      ∙ ap (λ (xs : List 𝓢.arithmetic.Carrier). 𝓢.embed x ∷ xs) (elements_same numbers)

  length-same : (numbers : List ℕ) → length (same_numbers_in 𝓢 numbers) ≡ 𝓢.width * length numbers
  unfolding flat_map
  length-same [] = sym (mul-zero 𝓢.width)
  length-same (x ∷ numbers) =
      length-append (𝓢.numbers (𝓢.embed x)) (same_numbers_in 𝓢 numbers)
      ∙ omega (arith, 𝓛.numbers_width (𝓢.embed x), length-same numbers, mul-suc 𝓢.width (length numbers))

  below-same : (numbers : List ℕ) → Below p numbers → Below p (same_numbers_in 𝓢 numbers)
  unfolding flat_map
  below-same [] below = tt
  below-same (x ∷ numbers) below =
      below-append p (𝓢.numbers (𝓢.embed x)) (same_numbers_in 𝓢 numbers)
      (𝓛.numbers_below (𝓢.embed x) (𝓛.embed_valid x below.0)) (below-same numbers below.1)

  -- each array's values, at any point
  pub values-embedded : (arrays : List Array) (rows columns : List ℕ) (i : ℕ) →
      values_at 𝓢 arrays (same_numbers_in 𝓢 rows) (same_numbers_in 𝓢 columns) i ≡ same_values_in 𝓢 (values_at prime arrays rows columns i)
  values-embedded arrays rows columns i =
      values_same _ _ (λ part.
      ap₂ (extension 𝓢.arithmetic (λ x y. 𝓢.embed (dense_of arrays i part x y)))
      (side (array_at arrays i).row_bits rows) (side (array_at arrays i).column_bits columns)
      ∙ sym (extension-map fp 𝓢.arithmetic 𝓢.embed 𝓛.respects (dense_of arrays i part)
      (take (array_at arrays i).row_bits rows) (take (array_at arrays i).column_bits columns))
      ∙ sym (ap 𝓢.embed (value-by (λ q.
      extension fp (dense_of arrays i q) (take (array_at arrays i).row_bits rows) (take (array_at arrays i).column_bits columns)) part)))
    where
      side : (k : ℕ) (numbers : List ℕ) →
          take k (𝓢.elements (same_numbers_in 𝓢 numbers)) ≡ map 𝓢.embed (take k numbers)
      side k numbers = ap (take k) (elements_same numbers) ∙ take-map 𝓢.embed k numbers

  -- the same coordinates are a point where they are one in the field of p
  pub point-embedded : (n n' : ℕ) (rows columns : List ℕ) → PointOf 1 n n' rows columns →
      PointOf 𝓢.width n n' (same_numbers_in 𝓢 rows) (same_numbers_in 𝓢 columns)
  point-embedded n n' rows columns point =
      record {
        rows_are = length-same rows ∙ ap (λ (k : ℕ). 𝓢.width * k) (point.rows_are ∙ one-mul n);
        columns-are = length-same columns ∙ ap (λ (k : ℕ). 𝓢.width * k) (point.columns-are ∙ one-mul n');
        rows-below = below-same rows point.rows-below;
        columns-below = below-same columns point.columns-below;
      }

  module _ (key rows columns sheet : List ℕ) (counted : Counted prime)
      (answer : (evaluated prime key rows columns sheet).answer ≡ given counted) (lent : List ℕ) (room : places_of 𝓢 * length (key_arrays key) ≤ length lent) where
    admitted : (counts : Counts) × (checked_key key ≡ given counts) × PointOf 1 counts.rows counts.columns rows columns ×
        (3 * counts.arrays ≤ length sheet)
    admitted =
        let (counts, e) = answered prime _ _ _ sheet counted answer in
        let (accepted, point, enough) =
        given-known (checked_key key) (point_judged 1 rows columns) _ (point-gives 1 rows columns) 3 (length sheet) counts e in
        (counts, accepted, point, enough)

    counts : Counts
    counts = admitted.0

    accepted : checked_key key ≡ given counts
    unfolding counts
    accepted = admitted.1

    point : point_judged 𝓢.width (same_numbers_in 𝓢 rows) (same_numbers_in 𝓢 columns) counts ≡ given counts
    unfolding counts
    point =
        point-of 𝓢.width (same_numbers_in 𝓢 rows) (same_numbers_in 𝓢 columns) counts
        (point-embedded counts.rows counts.columns rows columns admitted.2)

    enough : places_of 𝓢 * counts.arrays ≤ length lent
    enough = rw (arrays-counted key counts accepted) room

    given-alike : given counted ≡ given (counted_for prime key (last_values prime key rows columns))
    unfolding counts
    given-alike =
        sym answer
        ∙ answer-given prime key rows columns sheet counts accepted (point-of 1 rows columns counts admitted.2) admitted.3

    -- where the field of p has an answer, the larger field has the same: u with v zero, and as many factors
    pub same_answer : (evaluated 𝓢 key (same_numbers_in 𝓢 rows) (same_numbers_in 𝓢 columns) lent).answer ≡ given (same_counted_in 𝓢 counted)
    same_answer =
        answer-given 𝓢 key (same_numbers_in 𝓢 rows) (same_numbers_in 𝓢 columns) lent counts accepted point enough
        ∙ ap (λ (v : ValuesOf 𝓢). given (counted_for 𝓢 key v)) (values-embedded (key_arrays key) rows columns (last_of (key_arrays key)))
        ∙ ap (λ (c : Counted prime). given (same_counted_in 𝓢 c)) (given-injective (sym given-alike))

    -- and every array's are the same on the sheet
    pub same-sheet : (evaluated 𝓢 key (same_numbers_in 𝓢 rows) (same_numbers_in 𝓢 columns) lent).sheet
        ≡ laid 0 (λ i. words_of 𝓢 (same_values_in 𝓢 (values_at prime (key_arrays key) rows columns i))) (length (key_arrays key)) lent
    same-sheet =
        sheet-given 𝓢 key (same_numbers_in 𝓢 rows) (same_numbers_in 𝓢 columns) lent counts accepted point enough
        ∙ laid_same 0 _ (λ i. words_of 𝓢 (same_values_in 𝓢 (values_at prime (key_arrays key) rows columns i))) counts.arrays lent
        (λ i l. ap (words_of 𝓢) (values-embedded (key_arrays key) rows columns i))
        ∙ ap (λ (n : ℕ).
        laid 0 (λ i. words_of 𝓢 (same_values_in 𝓢 (values_at prime (key_arrays key) rows columns i))) n lent)
        (arrays-counted key counts accepted)
