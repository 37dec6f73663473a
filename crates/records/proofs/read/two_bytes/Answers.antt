-- `records::read::two_bytes` meets its contract.
use native.Mathlib.Omega.{arith}
use Rattle.records.proofs.NumberBytes.{two-bytes-in}
use Rattle.records.proofs.read.two_bytes.Goals as goal

pub returns : goal.returns
returns c =
    omega (arith, two-bytes-in c.args.bytes.now c.args.at c.requires)
