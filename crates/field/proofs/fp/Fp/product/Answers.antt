-- `field::Fp::product` meets its contract: it folds the product.
use mathlib.Core.Path.{sym, ◌∙◌}
use Rattle.field.specs.Fp.{p}
use Rattle.field.proofs.Remainders.{mod-mul-mod, mul-mod-mod}
use Rattle.field.proofs.fp.Fp.product.Goals as goal

pub returns : goal.returns
returns c = (c.folded.ensures.0 ∙ sym (mod-mul-mod _ _ p) ∙ sym (mul-mod-mod _ _ p), c.folded.ensures.1)
