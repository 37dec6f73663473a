-- Where nothing is refused: what the two passes need, and that what they come to is what compare promises.
-- The numbers compared are those that evaluate answers for the first key and then for the second, each at its own coordinates.
use Prim.Native.Nat.{ℕ, ◌+◌}
use mathlib.Core.List.{List}
use mathlib.Core.Path.{◌≡◌, refl, sym, ap, ap₂, ◌∙◌}
use lib.ListN.{length}
use Rattle.refusal.specs.Outcome.{given}
use Rattle.field.specs.Scalars.{Scalars, Lawful}
use Rattle.field.proofs.Elements.{elements-count}
use Rattle.key.specs.Check.{checked_key}
use Rattle.key.specs.KeyArrays.{key_arrays}
use Rattle.key.specs.declared.Counts.{Counts}
use Rattle.judge.specs.Judged.{together, pair_judged}
use Rattle.evaluation.specs.Evaluate.{values_at, last_values, counted_for, evaluated}
use Rattle.evaluation.specs.Inner.{written_by}
use Rattle.evaluation.specs.Sheet.{words_of}
use Rattle.evaluation.proofs.WordsOnSheet.{laid-length}
use Rattle.comparison.specs.Compare.{Answer, compared}
use Rattle.comparison.specs.Filled.{used, filled_factors, own_sheet}
use Rattle.comparison.specs.Inner.{factors_at, likeness_at, both_written}
use Rattle.comparison.proofs.CompareCases.{both-evaluated}
use Rattle.comparison.proofs.PairNotRefused.{BothServed, both-served}
use Rattle.comparison.proofs.UsedCoordinates.{own-answered, own-written}

module _ (𝓢 : Scalars) (𝓛 : Lawful 𝓢) (first second rows columns sheet : List ℕ) (one other both : Counts)
    (accepts : checked_key first ≡ given one) (accepts' : checked_key second ≡ given other)
    (admits : pair_judged 𝓢.width rows columns (length sheet) one other ≡ given both) where
  pub served : BothServed 𝓢 𝓛 first second one other accepts accepts' rows columns (length sheet) both
  served = both-served 𝓢 𝓛 first second one other accepts accepts' rows columns (length sheet) both admits

  -- the sheet after the first key's evaluation, on which the second's begins
  first-written : own_sheet 𝓢 first one rows columns sheet ≡ written_by 𝓢 first rows columns one.arrays sheet
  first-written = own-written 𝓢 𝓛 first one accepts rows columns (length sheet) served.first-serves sheet refl

  pub middle-length : length (own_sheet 𝓢 first one rows columns sheet) ≡ length sheet
  middle-length =
      ap length first-written
      ∙ laid-length 0 (λ i. words_of 𝓢 (values_at 𝓢 (key_arrays first) rows columns i)) one.arrays sheet

  pub first-answered : (evaluated 𝓢 first (used 𝓢 one.rows rows) (used 𝓢 one.columns columns) sheet).answer
      ≡ given (counted_for 𝓢 first (last_values 𝓢 first (used 𝓢 one.rows rows) (used 𝓢 one.columns columns)))
  first-answered = own-answered 𝓢 𝓛 first one accepts rows columns (length sheet) served.first-serves sheet refl

  pub second-answered :
      (evaluated 𝓢 second (used 𝓢 other.rows rows) (used 𝓢 other.columns columns) (own_sheet 𝓢 first one rows columns sheet)).answer
      ≡ given (counted_for 𝓢 second (last_values 𝓢 second (used 𝓢 other.rows rows) (used 𝓢 other.columns columns)))
  second-answered =
      own-answered 𝓢 𝓛 second other accepts' rows columns (length sheet) served.second-serves
      (own_sheet 𝓢 first one rows columns sheet) middle-length

  -- the factors go by N and N', which are the coordinates of the point
  factors-are : (key : List ℕ) (own : Counts) → factors_at 𝓢 key own rows columns ≡ filled_factors key own both.rows both.columns
  factors-are key own =
      ap₂ (filled_factors key own)
      (elements-count 𝓢 𝓛 (together one other).rows rows served.point.rows_are
      ∙ ap (λ (c : Counts). c.rows) (sym served.are))
      (elements-count 𝓢 𝓛 (together one other).columns columns served.point.columns-are
      ∙ ap (λ (c : Counts). c.columns) (sym served.are))

  pub both-passed : (answer : Answer) (factors : ℕ) (after : List ℕ) →
      answer ≡ likeness_at 𝓢 first one second other rows columns →
      factors ≡ factors_at 𝓢 first one rows columns + factors_at 𝓢 second other rows columns →
      after ≡ both_written 𝓢 first one second other rows columns sheet →
      compared 𝓢 first second rows columns sheet ≡ record { answer = answer; factors = factors; sheet = after }
  both-passed answer factors after a n e =
      let counted = n ∙ ap₂ ◌+◌ (factors-are first one) (factors-are second other) in
      let written =
      e
      ∙ ap (written_by 𝓢 second rows columns other.arrays) (sym first-written)
      ∙ sym (own-written 𝓢 𝓛 second other accepts' rows columns (length sheet) served.second-serves
      (own_sheet 𝓢 first one rows columns sheet) middle-length) in
      both-evaluated 𝓢 first second rows columns sheet one accepts other accepts' both admits
      ∙ sym (λ t. record { answer = a t; factors = counted t; sheet = written t })
