-- `shorter::shorter_of` meets its contract.
use native.Mathlib.Omega.{arith}
use Rattle.shorter.proofs.HandedBack.{second-shorter, first-shorter}
use Rattle.shorter.proofs.shorter_of.Goals as goal

pub returns-then-second-first : goal.returns-then-second-first
returns-then-second-first c = second-shorter c.args.first.now c.args.second.now (omega (arith, c.if-second-first.true))

pub returns-else-second-first : goal.returns-else-second-first
returns-else-second-first c = first-shorter c.args.first.now c.args.second.now (omega (arith, c.if-second-first.false))
