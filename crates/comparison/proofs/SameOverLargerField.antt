-- At a point of the field of p compare answers over a larger field what it answers over that of p.
use Prim.Native.Nat.{ℕ, zero, suc, ◌*◌, ◌≤◌, ◌<◌}
use mathlib.Core.List.{List, [], ◌∷◌, map}
use mathlib.Core.Logic.{◌⊎◌, inl, inr}
use mathlib.Core.Path.{◌≡◌, refl, sym, ap, ap₂, ◌∙◌}
use lib.ListN.{length, drop}
use Rattle.refusal.specs.Outcome.{given}
use Rattle.field.specs.Fp.{p, fp}
use Rattle.field.specs.Scalars.{Scalars, prime, Lawful}
use Rattle.field.proofs.FpField.{fp-ring}
use Rattle.field.proofs.PrimeLawful.{prime-lawful}
use Rattle.multilinear.specs.Weight.{weight}
use Rattle.multilinear.proofs.Maps.{weight-map}
use Rattle.arrays.specs.Arrays.{Values, Part, A, B, C, value_of}
use Rattle.arrays.proofs.Parts.{value-by, values_same}
use Rattle.key.specs.Check.{checked_key}
use Rattle.key.specs.KeyArrays.{key_arrays}
use Rattle.key.specs.declared.Counts.{Counts}
use Rattle.judge.specs.Judged.{together}
use Rattle.judge.proofs.KeysTogether.{PointOfBoth}
use Rattle.evaluation.specs.Embedded.{same_numbers_in, same_values_in}
use Rattle.evaluation.specs.Evaluate.{last_of, last_values}
use Rattle.evaluation.specs.Sheet.{places_of}
use Rattle.evaluation.proofs.SameOverLargerField.{elements_same, values-embedded, point-embedded}
use Rattle.comparison.specs.Compare.{Comparison, same, different, likeness, compared}
use Rattle.comparison.specs.Filled.{filled_values}
use Rattle.comparison.specs.Inner.{Serves, likeness_at}
use Rattle.comparison.proofs.Answers.{same-not-different}
use Rattle.comparison.proofs.CompareCases.{both-evaluated}
use Rattle.comparison.proofs.Likeness.{likeness-either, same-equal, equal-same}
use Rattle.comparison.proofs.PairNotRefused.{serves-one, serves-other, both-given}
use Rattle.comparison.proofs.UsedCoordinates.{filled-whole}

drop-map : {X Y : Type 0} (f : X → Y) (k : ℕ) (xs : List X) → drop k (map f xs) ≡ map f (drop k xs)
drop-map f zero xs = refl
drop-map f (suc k) [] = refl
drop-map f (suc k) (x ∷ xs) = drop-map f k xs

-- the values compared over the field of p are below p
filled-below : (key : List ℕ) (own : Counts) (rows columns : List ℕ) (part : Part) → value_of part (filled_values prime key own rows columns) < p
unfolding fp-ring
filled-below key own rows columns A = fp-ring.valid_mul _ _
filled-below key own rows columns B = fp-ring.valid_mul _ _
filled-below key own rows columns C = fp-ring.valid_mul _ _

module _ (𝓢 : Scalars) (𝓛 : Lawful 𝓢) where
  parts-embedded : (v : Values) (part : Part) → value_of part (same_values_in 𝓢 v) ≡ 𝓢.embed (value_of part v)
  parts-embedded v = value-by (λ part. 𝓢.embed (value_of part v))

  likeness-embedded : (v w : Values) → ((part : Part) → value_of part v < p) → ((part : Part) → value_of part w < p) →
      likeness 𝓢 (same_values_in 𝓢 v) (same_values_in 𝓢 w) ≡ likeness prime v w
  likeness-embedded v w below below' =
      go (likeness-either prime prime-lawful v w _ refl) (likeness-either 𝓢 𝓛 (same_values_in 𝓢 v) (same_values_in 𝓢 w) _ refl)
    where
      go : (likeness prime v w ≡ same) ⊎ (likeness prime v w ≡ different) →
          (likeness 𝓢 (same_values_in 𝓢 v) (same_values_in 𝓢 w) ≡ same)
          ⊎ (likeness 𝓢 (same_values_in 𝓢 v) (same_values_in 𝓢 w) ≡ different) →
          likeness 𝓢 (same_values_in 𝓢 v) (same_values_in 𝓢 w) ≡ likeness prime v w
      go (inl e) _ =
          equal-same 𝓢 𝓛 (same_values_in 𝓢 v) (same_values_in 𝓢 w) (λ part.
          parts-embedded v part ∙ ap 𝓢.embed (same-equal prime prime-lawful v w e part) ∙ sym (parts-embedded w part))
          ∙ sym e
      go (inr e) (inl f) =
          absurd (same-not-different (sym (equal-same prime prime-lawful v w (λ part.
          𝓛.embed_once _ _ (below part) (below' part)
          (sym (parts-embedded v part) ∙ same-equal 𝓢 𝓛 (same_values_in 𝓢 v) (same_values_in 𝓢 w) f part ∙ parts-embedded w part)))
          ∙ e))
      go (inr e) (inr f) = f ∙ sym e

  -- what the coordinates behind the first n weigh
  behind-embedded : (n : ℕ) (numbers : List ℕ) →
      weight 𝓢.arithmetic 0 (drop n (𝓢.elements (same_numbers_in 𝓢 numbers))) ≡ 𝓢.embed (weight fp 0 (drop n numbers))
  behind-embedded n numbers =
      ap (weight 𝓢.arithmetic 0) (ap (drop n) (elements_same 𝓢 𝓛 numbers) ∙ drop-map 𝓢.embed n numbers)
      ∙ sym (weight-map fp 𝓢.arithmetic 𝓢.embed 𝓛.respects 0 (drop n numbers))

  filled-embedded : (key : List ℕ) (own : Counts) → checked_key key ≡ given own → (rows columns : List ℕ) (places lent : ℕ) →
      Serves prime own rows columns places → Serves 𝓢 own (same_numbers_in 𝓢 rows) (same_numbers_in 𝓢 columns) lent →
      filled_values 𝓢 key own (same_numbers_in 𝓢 rows) (same_numbers_in 𝓢 columns) ≡ same_values_in 𝓢 (filled_values prime key own rows columns)
  filled-embedded key own accepted rows columns places lent serves serves' =
      filled-whole 𝓢 𝓛 key own accepted (same_numbers_in 𝓢 rows) (same_numbers_in 𝓢 columns) lent serves'
      ∙ values_same _ _ (λ part.
      ap₂ 𝓢.arithmetic.mul
      (ap (value_of part) (values-embedded 𝓢 𝓛 (key_arrays key) rows columns (last_of (key_arrays key)))
      ∙ parts-embedded (last_values prime key rows columns) part)
      (ap₂ 𝓢.arithmetic.mul (behind-embedded own.rows rows) (behind-embedded own.columns columns)
      ∙ sym (𝓛.respects.on_mul _ _))
      ∙ sym (𝓛.respects.on_mul _ _)
      ∙ sym (ap 𝓢.embed (value-by whole part)))
      ∙ ap (same_values_in 𝓢) (sym (filled-whole prime prime-lawful key own accepted rows columns places serves))
    where
      whole : Part → ℕ
      whole part =
          fp.mul (value_of part (last_values prime key rows columns))
          (fp.mul (weight fp 0 (drop own.rows rows)) (weight fp 0 (drop own.columns columns)))

  module _ (first second rows columns : List ℕ) (one other : Counts) (accepts : checked_key first ≡ given one)
      (accepts' : checked_key second ≡ given other) (point : PointOfBoth 1 rows columns one other) where
    -- what is answered over a field at some numbers, on a sheet that serves both keys
    answered : (𝓣 : Scalars) → Lawful 𝓣 → (rows columns sheet : List ℕ) → PointOfBoth 𝓣.width rows columns one other →
        places_of 𝓣 * one.arrays ≤ length sheet → places_of 𝓣 * other.arrays ≤ length sheet →
        (compared 𝓣 first second rows columns sheet).answer ≡ likeness_at 𝓣 first one second other rows columns
    answered 𝓣 lawful rows columns sheet is room room' =
        ap (λ (x : Comparison). x.answer)
        (both-evaluated 𝓣 first second rows columns sheet one accepts other accepts' (together one other)
        (both-given 𝓣 lawful first second one other accepts accepts' rows columns is (length sheet) room room'))

    pub same-comparison : (sheet lent : List ℕ) → 3 * one.arrays ≤ length sheet → 3 * other.arrays ≤ length sheet →
        places_of 𝓢 * one.arrays ≤ length lent → places_of 𝓢 * other.arrays ≤ length lent →
        (compared 𝓢 first second (same_numbers_in 𝓢 rows) (same_numbers_in 𝓢 columns) lent).answer
        ≡ (compared prime first second rows columns sheet).answer
    same-comparison sheet lent room room' enough enough' =
        let there = point-embedded 𝓢 𝓛 (together one other).rows (together one other).columns rows columns point in
        answered 𝓢 𝓛 (same_numbers_in 𝓢 rows) (same_numbers_in 𝓢 columns) lent there enough enough'
        ∙ ap₂ (likeness 𝓢)
        (filled-embedded first one accepts rows columns (length sheet) (length lent)
        (serves-one prime prime-lawful first second one other accepts accepts' rows columns point (length sheet) room)
        (serves-one 𝓢 𝓛 first second one other accepts accepts' _ _ there (length lent) enough))
        (filled-embedded second other accepts' rows columns (length sheet) (length lent)
        (serves-other prime prime-lawful first second one other accepts accepts' rows columns point (length sheet) room')
        (serves-other 𝓢 𝓛 first second one other accepts accepts' _ _ there (length lent) enough'))
        ∙ likeness-embedded (filled_values prime first one rows columns) (filled_values prime second other rows columns)
        (filled-below first one rows columns) (filled-below second other rows columns)
        ∙ sym (answered prime prime-lawful rows columns sheet point room room')
