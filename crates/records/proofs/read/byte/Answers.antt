-- `records::read::byte` meets its contract: an element of a byte slice is below 256.
use native.Mathlib.Omega.{arith}
use Rattle.records.proofs.read.byte.Goals as goal

pub returns : goal.returns
returns c = omega (arith, c.shared_slice_known-1.given c.args.at)
