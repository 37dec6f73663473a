-- `evaluate::array::values` meets its contract: an array has no more bits than the sides have coordinates.
use native.Mathlib.Omega.{arith}
use Rattle.arrays.specs.Arrays.{array_at}
use Rattle.arrays.specs.Placing.{blocks}
use Rattle.arrays.specs.WellFormed.{ArrayFits}
use Rattle.key.specs.KeyArrays.{key_arrays}
use Rattle.key.proofs.Acceptance.{acceptance}
use Rattle.evaluate.proofs.array.values.Goals as goal
use Rattle.evaluate.proofs.array.values.Goals.{Start}

fits : (g : _) (a : Start g) →
    let sides = a.requires.sides in
    let arrays = key_arrays a.args.key.now.bytes.now in
    ArrayFits blocks blocks arrays sides.counts.rows sides.counts.columns a.args.i (array_at arrays a.args.i)
fits g a =
    let sides = a.requires.sides in
    (acceptance _ sides.counts sides.accepted).well_formed.arrays_fit a.args.i a.requires.i_in_bounds

pub reach-requires : goal.reach-requires
reach-requires g c =
    let sides = c.requires.sides in (
      rw c.shape-own.ensures (omega (arith, (fits g (goal.at.reach-requires g c).Start).rows_at_most, sides.rows_enough)),
      sides.rows_ready,
    )

pub reach-requires-2 : goal.reach-requires-2
reach-requires-2 g c =
    let sides = c.requires.sides in (
      rw c.shape-own.ensures (omega (arith, (fits g (goal.at.reach-requires-2 g c).Start).columns_at_most, sides.columns_enough)),
      sides.columns_ready,
    )
