-- `records::write::shape` meets its contract: a field of one byte is its own remainder.
use Prim.Native.Nat.{◌%◌}
use mathlib.Core.Path.{◌≡◌}
use native.Mathlib.Omega.{arith}
use lib.ListN.{length-set}
use Rattle.records.proofs.write.shape.Goals as goal

pub bounds-part-1 : goal.bounds-part-1
bounds-part-1 c = simp length-set (omega arith)

pub returns : goal.returns
returns c =
    let rows : c.args.s.rows % 256 ≡ c.args.s.rows = omega (arith, c.well_formed.1.1.0) in
    let columns : c.args.s.columns % 256 ≡ c.args.s.columns = omega (arith, c.well_formed.1.1.0) in
    rw (rows, columns)
