-- At a point compare answers "same" exactly where the extensions of the dense matrices of the two keys' last arrays agree, filled with
-- zeros to the larger shape. The keys are accepted, and the sheet is long enough.
use Prim.Native.Nat.{ℕ, ◌+◌, ◌*◌, ◌≤◌}
use mathlib.Core.List.{List, map, flat_map}
use mathlib.Core.Logic.{◌⊎◌}
use mathlib.Core.Path.{◌≡◌, sym, ap, ap₂, ◌∙◌}
use native.Mathlib.Nat.{mul-add}
use native.Mathlib.Omega.{arith}
use lib.ListN.{length, take, drop, length-drop}
use lib.Seq.{length-take-le}
use Rattle.refusal.specs.Outcome.{given}
use Rattle.algebra.specs.Digits.{digits}
use Rattle.algebra.specs.Points.{Below}
use Rattle.algebra.proofs.CoordinatesBelow.{below-take, below-drop}
use Rattle.algebra.proofs.DigitGroups.{take-groups, drop-groups}
use Rattle.field.specs.Fp.{p}
use Rattle.field.specs.Scalars.{Scalars, size_of, Lawful}
use Rattle.field.proofs.Elements.{elements-numbered}
use Rattle.multilinear.specs.Agreement.{extension_at}
use Rattle.multilinear.specs.Extension.{extension}
use Rattle.arrays.specs.Arrays.{Part, value_of}
use Rattle.key.specs.Check.{checked_key}
use Rattle.key.specs.declared.Counts.{Counts}
use Rattle.judge.specs.Judged.{together}
use Rattle.judge.proofs.KeysTogether.{PointOfBoth}
use Rattle.evaluation.specs.Sheet.{places_of}
use Rattle.evaluation.proofs.EvaluatePromises.{arrays-counted}
use Rattle.comparison.specs.AgreementBound.{Point, LongEnough, answer_at}
use Rattle.comparison.specs.Compare.{Comparison, same, different}
use Rattle.comparison.specs.Filled.{filled_values}
use Rattle.comparison.specs.Inner.{Serves, likeness_at}
use Rattle.comparison.proofs.CompareCases.{both-evaluated}
use Rattle.comparison.proofs.FilledExtensions.{embedded, filled-extends}
use Rattle.comparison.proofs.Likeness.{likeness-either, same-equal, equal-same}
use Rattle.comparison.proofs.PairNotRefused.{serves-one, serves-other, both-given}

-- a point whose first N coordinates are the rows'
module _ (𝓢 : Scalars) (N : ℕ) where
  -- the numbers of the rows' coordinates of a point and those of the columns'
  abbrev pub rows_of : List ℕ → List ℕ
  rows_of point = take (𝓢.width * N) point

  abbrev pub columns_of : List ℕ → List ℕ
  columns_of point = drop (𝓢.width * N) point

-- the point whose coordinates have these numbers among the field's elements
abbrev pub point_of : Scalars → List ℕ → List ℕ
point_of 𝓢 is = flat_map (digits p 𝓢.width) is

module _ (𝓢 : Scalars) (𝓛 : Lawful 𝓢) (first second : List ℕ) (one other : Counts) (accepts : checked_key first ≡ given one)
    (accepts' : checked_key second ≡ given other) where
  abbrev N : ℕ
  N = (together one other).rows

  abbrev N' : ℕ
  N' = (together one other).columns

  pub point-parts : (point : List ℕ) → Point 𝓢 (N + N') point →
      PointOfBoth 𝓢.width (rows_of 𝓢 N point) (columns_of 𝓢 N point) one other
  point-parts point is =
      let whole = is.numbers ∙ mul-add 𝓢.width N N' in
      record {
        rows_are = length-take-le (𝓢.width * N) point (omega (arith, whole));
        columns-are = length-drop (𝓢.width * N) point ∙ omega (arith, whole);
        rows-below = below-take p (𝓢.width * N) point is.below;
        columns-below = below-drop p (𝓢.width * N) point is.below;
      }

  module _ (point : List ℕ) (at : Point 𝓢 (N + N') point) (sheet : List ℕ) (long : LongEnough 𝓢 first second sheet) where
    first-room : places_of 𝓢 * one.arrays ≤ length sheet
    first-room = rw (arrays-counted first one accepts) long.for_first

    second-room : places_of 𝓢 * other.arrays ≤ length sheet
    second-room = rw (arrays-counted second other accepts') long.for_second

    -- what is answered on a long enough sheet
    pub answer-at_point : answer_at 𝓢 N first second point sheet ≡ likeness_at 𝓢 first one second other (rows_of 𝓢 N point) (columns_of 𝓢 N point)
    answer-at_point =
        ap (λ (x : Comparison). x.answer)
        (both-evaluated 𝓢 first second (rows_of 𝓢 N point) (columns_of 𝓢 N point) sheet one accepts other accepts' (together one other)
        (both-given 𝓢 𝓛 first second one other accepts accepts' (rows_of 𝓢 N point) (columns_of 𝓢 N point) (point-parts point at)
        (length sheet) first-room second-room))

    pub same-or-different : (answer_at 𝓢 N first second point sheet ≡ same) ⊎ (answer_at 𝓢 N first second point sheet ≡ different)
    same-or-different = likeness-either 𝓢 𝓛 _ _ _ answer-at_point

    first-serves : Serves 𝓢 one (rows_of 𝓢 N point) (columns_of 𝓢 N point) (length sheet)
    first-serves =
        serves-one 𝓢 𝓛 first second one other accepts accepts' (rows_of 𝓢 N point) (columns_of 𝓢 N point) (point-parts point at)
        (length sheet) first-room

    second-serves : Serves 𝓢 other (rows_of 𝓢 N point) (columns_of 𝓢 N point) (length sheet)
    second-serves =
        serves-other 𝓢 𝓛 first second one other accepts accepts' (rows_of 𝓢 N point) (columns_of 𝓢 N point) (point-parts point at)
        (length sheet) second-room

  -- the extension of a key's dense matrix at such a point
  abbrev extension_of : List ℕ → Part → List ℕ → 𝓢.arithmetic.Carrier
  extension_of key part is = extension_at 𝓢.arithmetic 𝓛.field.element N (embedded 𝓢 key part) is

  module _ (is : List ℕ) (below : Below (size_of 𝓢) is) where
    rows_made : 𝓢.elements (rows_of 𝓢 N (point_of 𝓢 is)) ≡ map 𝓛.field.element (take N is)
    rows_made =
        ap 𝓢.elements (take-groups p 𝓢.width N is) ∙ elements-numbered 𝓢 𝓛 (take N is) (below-take (size_of 𝓢) N is below)

    columns-made : 𝓢.elements (columns_of 𝓢 N (point_of 𝓢 is)) ≡ map 𝓛.field.element (drop N is)
    columns-made =
        ap 𝓢.elements (drop-groups p 𝓢.width N is) ∙ elements-numbered 𝓢 𝓛 (drop N is) (below-drop (size_of 𝓢) N is below)

    values-extend : (key : List ℕ) (own : Counts) → checked_key key ≡ given own → (places : ℕ) →
        Serves 𝓢 own (rows_of 𝓢 N (point_of 𝓢 is)) (columns_of 𝓢 N (point_of 𝓢 is)) places → (part : Part) →
        value_of part (filled_values 𝓢 key own (rows_of 𝓢 N (point_of 𝓢 is)) (columns_of 𝓢 N (point_of 𝓢 is))) ≡ extension_of key part is
    values-extend key own accepted places serves part =
        filled-extends key own accepted 𝓢 𝓛 (rows_of 𝓢 N (point_of 𝓢 is)) (columns_of 𝓢 N (point_of 𝓢 is)) places serves part
        ∙ ap₂ (extension 𝓢.arithmetic (embedded 𝓢 key part)) rows_made columns-made

    module _ (at : Point 𝓢 (N + N') (point_of 𝓢 is)) (sheet : List ℕ) (long : LongEnough 𝓢 first second sheet) where
      first-extends : (part : Part) →
          value_of part (filled_values 𝓢 first one (rows_of 𝓢 N (point_of 𝓢 is)) (columns_of 𝓢 N (point_of 𝓢 is))) ≡ extension_of first part is
      first-extends = values-extend first one accepts (length sheet) (first-serves (point_of 𝓢 is) at sheet long)

      second-extends : (part : Part) →
          value_of part (filled_values 𝓢 second other (rows_of 𝓢 N (point_of 𝓢 is)) (columns_of 𝓢 N (point_of 𝓢 is))) ≡ extension_of second part is
      second-extends = values-extend second other accepts' (length sheet) (second-serves (point_of 𝓢 is) at sheet long)

      -- where the answer is "same", the extensions of the first key's dense matrices are those of the second's
      pub same-agrees : answer_at 𝓢 N first second (point_of 𝓢 is) sheet ≡ same → (part : Part) →
          extension_of first part is ≡ extension_of second part is
      same-agrees e part =
          sym (first-extends part)
          ∙ same-equal 𝓢 𝓛 _ _ (sym (answer-at_point (point_of 𝓢 is) at sheet long) ∙ e) part
          ∙ second-extends part

      -- and where they are, for A, B and C, the answer is "same"
      pub agreeing-same : ((part : Part) → extension_of first part is ≡ extension_of second part is) →
          answer_at 𝓢 N first second (point_of 𝓢 is) sheet ≡ same
      agreeing-same agree =
          answer-at_point (point_of 𝓢 is) at sheet long
          ∙ equal-same 𝓢 𝓛 _ _ (λ part. first-extends part ∙ agree part ∙ sym (second-extends part))
