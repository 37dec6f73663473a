-- `quadratic::numbers::element` meets its contract: element i is made of the numbers 2i and 2i + 1.
use mathlib.Core.Path.{sym, ◌∙◌}
use Rattle.quadratic.proofs.TwoByTwo.{two_at, two-below}
use Rattle.quadratic.proofs.numbers.element.Goals as goal

pub new-requires : goal.new-requires
new-requires c =
    two-below c.args.numbers.now c.args.i c.requires.0 c.requires.1

pub returns : goal.returns
returns c =
    c.new.ensures ∙ sym (two_at c.args.numbers.now c.args.i c.requires.0)
