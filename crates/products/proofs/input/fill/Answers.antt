-- `products::input::fill` meets its contract: one number a turn.
use Rattle.products.proofs.FilledNumbers.{filling-done}
use Rattle.products.proofs.input.fill.Goals as goal

pub returns : goal.returns
returns g c = filling-done _ _ _ c.loop-number-test.false c.loop-number.invariant
