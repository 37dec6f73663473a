-- `weights::limbs::limb_weight` meets its contract: one place of the limb's block.
use mathlib.Core.Path.{ap, ◌∙◌}
use native.Mathlib.Omega.{arith}
use Rattle.std.proofs.lemmas.List.{get_or_read}
use Rattle.weights.proofs.LimbWeights.{limb-inside, limb-holds}
use Rattle.weights.proofs.limbs.limb_weight.Goals as goal

pub offset_bounds-table-limb : goal.offset_bounds-table-limb
offset_bounds-table-limb g c =
    omega (
      arith,
      limb-inside g.S.Scalar.elements g.S.Scalar.lawful c.args.table.now c.args.a c.args.limb c.args.bits c.requires.0
          c.requires.1 c.requires.2,
    )

pub bounds-table-limb : goal.bounds-table-limb
bounds-table-limb g c =
    limb-inside g.S.Scalar.elements g.S.Scalar.lawful c.args.table.now c.args.a c.args.limb c.args.bits c.requires.0 c.requires.1
    c.requires.2

pub returns : goal.returns
returns g c =
    ap g.S.Scalar.elements.element
    (get_or_read c.args.table.now _ c.index-table-limb.result
    (limb-inside g.S.Scalar.elements g.S.Scalar.lawful c.args.table.now c.args.a c.args.limb c.args.bits c.requires.0 c.requires.1
    c.requires.2) c.index-table-limb.is g.S.Scalar.elements.none)
    ∙ limb-holds g.S.Scalar.elements g.S.Scalar.lawful c.args.table.now c.args.a c.args.limb c.args.bits c.requires.0 c.requires.1
    c.requires.2
