-- `IndexedKey::shape` meets its contract: the array's shape stands at its offset.
use mathlib.Core.Path.{◌∙◌}
use Rattle.key.proofs.IndexedKey.{opening-shape}
use Rattle.indexed.proofs.IndexedKey.shape.Goals as goal

pub shape_at-requires-clause-i_in_bounds_2 : goal.shape_at-requires-clause-i_in_bounds_2
shape_at-requires-clause-i_in_bounds_2 c = (opening-shape _ _ c.args.self.now.indexed c.args.i c.requires).0

pub returns : goal.returns
returns c = c.shape_at.ensures ∙ (opening-shape _ _ c.args.self.now.indexed c.args.i c.requires).1
