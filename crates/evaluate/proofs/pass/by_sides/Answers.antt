-- `evaluate::pass::by_sides` meets its contract: on prepared sides the pass writes the extensions at the point.
use mathlib.Core.Path.{refl, ◌∙◌}
use Rattle.scalar.proofs.NumbersRead.{counted-is}
use Rattle.evaluation.proofs.PreparedSides.{sides-ready, sheet-prepared}
use Rattle.evaluate.proofs.pass.by_sides.Goals as goal

pub over-requires : goal.over-requires
over-requires g c =
    let 𝓔 = g.S.Scalar.elements in
    let 𝓛 = g.S.Scalar.lawful in
    record {
      sides = sides-ready 𝓔 𝓛 _ _ _ c.requires.at_point _ _ c.prepare.ensures c.prepare-2.ensures _
          (counted-is 𝓔 𝓛 c.args.rows.now c.WIDTH.result (c.WIDTH.ensures ∙ g.met.S.Scalar.width))
          (counted-is 𝓔 𝓛 c.args.columns.now c.WIDTH-2.result (c.WIDTH-2.ensures ∙ g.met.S.Scalar.width));
      room = c.requires.room;
    }

pub returns : goal.returns
returns g c =
    let over = c.over.ensures in
    record {
      factors = over.factors;
      sheet = sheet-prepared g.S.Scalar.elements g.S.Scalar.lawful _ _ _ c.requires.at_point _ _ c.prepare.ensures c.prepare-2.ensures _
          refl _ _ over.sheet;
    }
