-- `records::read::shape` meets its contract: a field of one byte is that byte.
use Prim.Native.Nat.{◌+◌}
use mathlib.Core.List.{[], ◌∷◌}
use native.Mathlib.Omega.{arith}
use Rattle.records.proofs.FieldBytes.{fields_at}
use Rattle.records.proofs.NumberBytes.{byte-in}
use Rattle.records.proofs.read.shape.Goals as goal

pub returns : goal.returns
returns c =
    let start = c.args in
    let s = start.bytes.now in
    cc
    (fields_at 1 (1 ∷ []) s start.at, byte-in s start.at (omega arith), byte-in s (start.at + 1) (omega arith))
