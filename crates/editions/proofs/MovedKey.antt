-- The moved key is accepted with the same counts, has the same arrays and is of the other edition.
use Prim.Native.Nat.{ℕ, ◌≤◌}
use mathlib.Core.Bool.{Bool, true, false, not}
use mathlib.Core.List.{List, []}
use mathlib.Core.Path.{◌≡◌, refl, sym, ap, subst, ◌∙◌}
use native.Mathlib.Omega.{arith}
use lib.ListN.{length}
use Rattle.refusal.specs.Outcome.{given}
use Rattle.records.specs.declared.Record.{Record}
use Rattle.arrays.specs.WellFormed.{Each}
use Rattle.key.specs.Accepted.{Accepted}
use Rattle.key.specs.Check.{checked_key}
use Rattle.key.specs.Encoding.{key_bytes, key_records, InEdition}
use Rattle.key.specs.KeyArrays.{key_arrays, key_scaled}
use Rattle.key.specs.Reading.{records_in}
use Rattle.key.specs.declared.Counts.{Counts}
use Rattle.key.proofs.Acceptance.{acceptance}
use Rattle.key.proofs.WellFormedIsAccepted.{well-formed-accepted, well-formed-records, well-formed-back, well-formed-edition}
use Rattle.editions.specs.Move.{moved_key, other_factors}
use Rattle.editions.proofs.MovedRecords.{moved-is}
use Rattle.editions.proofs.OtherFactors.{other_factors_from, Unscaled, factors-lie, none_other, no-factors, key-written, key-unscaled}

-- a key that can be moved: it is accepted with these counts, it has no factor other than 1, and its copy is not too long
pub record Movable (key : List ℕ) (counts : Counts) : Type 0 where
  pub accepted : checked_key key ≡ given counts
  pub factors-one : other_factors key ≡ []
  pub at_most_65536 : length (moved_key key) ≤ 65536

pub twice : (b : Bool) → not (not b) ≡ b
twice false = refl
twice true = refl

module _ (key : List ℕ) (counts : Counts) (movable : Movable key counts) where
  a : Accepted key counts
  a = acceptance key counts movable.accepted

  other : Bool
  other = not (key_scaled key)

  is : moved_key key ≡ key_bytes other counts.rows counts.columns (key_arrays key)
  unfolding other
  is = moved-is key counts movable.accepted

  -- its arrays can be written in the other edition
  written : InEdition other (key_arrays key)
  unfolding other
  written =
      key-written (key_scaled key) counts.rows counts.columns (key_arrays key)
      (subst (λ (records : List Record). Each Unscaled records) a.records
      (none_other 0 (records_in key) (sym (factors-lie key) ∙ movable.factors-one)))

  pub moved-accepted : checked_key (moved_key key) ≡ given counts
  moved-accepted =
      ap checked_key is
      ∙ well-formed-accepted other counts.rows counts.columns (key_arrays key) a.well_formed a.last_of_shape a.at_most_1024
      (omega (arith, ap length is, movable.at_most_65536))
      ∙ ap given (sym a.counted)

  pub moved-arrays : key_arrays (moved_key key) ≡ key_arrays key
  moved-arrays =
      ap key_arrays is
      ∙ well-formed-back other counts.rows counts.columns (key_arrays key) a.well_formed written a.at_most_1024

  pub moved-edition : key_scaled (moved_key key) ≡ not (key_scaled key)
  unfolding other
  moved-edition =
      ap key_scaled is ∙ well-formed-edition other counts.rows counts.columns (key_arrays key) a.well_formed a.at_most_1024

  records : records_in (moved_key key) ≡ key_records other counts.rows counts.columns (key_arrays key)
  records =
      ap records_in is ∙ well-formed-records other counts.rows counts.columns (key_arrays key) a.well_formed a.at_most_1024

  -- all its factors are 1
  pub moved-factors : other_factors (moved_key key) ≡ []
  unfolding other
  moved-factors =
      factors-lie (moved_key key) ∙ ap (other_factors_from 0) records
      ∙ no-factors 0 (key_records other counts.rows counts.columns (key_arrays key))
      (key-unscaled other counts.rows counts.columns (key_arrays key)
      (subst (λ (scaled : Bool). InEdition scaled (key_arrays key)) (sym (twice (key_scaled key))) a.in_edition))
