-- `records::read::four_bytes` meets its contract.
use native.Mathlib.Omega.{arith}
use Rattle.records.proofs.NumberBytes.{four-bytes-in}
use Rattle.records.proofs.read.four_bytes.Goals as goal

pub returns : goal.returns
returns c =
    omega (arith, four-bytes-in c.args.bytes.now c.args.at c.requires)
