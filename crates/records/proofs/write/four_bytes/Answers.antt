-- `records::write::four_bytes` meets its contract: dividing by 256 again and again is dividing by its powers.
use native.Mathlib.Nat.{div-div-eq-div-mul}
use native.Mathlib.Numerals.{towards_suc}
use native.Mathlib.Omega.{arith}
use lib.ListN.{length-set}
use Rattle.records.proofs.write.four_bytes.Goals as goal

pub bounds-part-at-2 : goal.bounds-part-at-2
bounds-part-at-2 c = simp length-set (omega arith)

pub bounds-part-at-3 : goal.bounds-part-at-3
bounds-part-at-3 c = simp length-set (omega arith)

pub bounds-part-at-4 : goal.bounds-part-at-4
bounds-part-at-4 c = simp length-set (omega arith)

pub returns : goal.returns
returns c = simp (towards_suc, div-div-eq-div-mul)
