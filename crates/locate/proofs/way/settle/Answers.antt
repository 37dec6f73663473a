-- `locate::way::settle` meets its contract: one coordinate a turn.
use native.Mathlib.Omega.{arith}
use lib.ListN.{length-set}
use Rattle.location.proofs.WayOnSheet.{way-begun, rows_inside, way-turn, way-done}
use Rattle.locate.proofs.way.settle.Goals as goal

pub loop-i-init : goal.loop-i-init
loop-i-init c = way-begun _ _ _ _ _ c.requires

pub offset_bounds-point-i : goal.offset_bounds-point-i
offset_bounds-point-i c = omega arith

pub bounds-point-i : goal.bounds-point-i
bounds-point-i c = omega (arith, c.loop-i.invariant.settling.as_many)

pub bit_for-bit-requires : goal.bit_for-bit-requires
bit_for-bit-requires c =
    let at = c.loop-i in
    omega (arith, length-set at.point at.i 0, rows_inside _ _ _ _ _ _ _ _ at.invariant)

pub offset_bounds-point-i-in-loop-i : goal.offset_bounds-point-i-in-loop-i
offset_bounds-point-i-in-loop-i c = omega arith

pub bounds-point-i-in-loop-i : goal.bounds-point-i-in-loop-i
bounds-point-i-in-loop-i c =
    let at = c.loop-i in
    omega (arith, length-set at.point at.i 0, at.invariant.settling.as_many)

pub overflow_step-i : goal.overflow_step-i
overflow_step-i c = omega arith

pub loop-i-smaller : goal.loop-i-smaller
loop-i-smaller c = omega arith

pub loop-i-preserved : goal.loop-i-preserved
loop-i-preserved c =
    way-turn _ _ _ _ _ _ _ _ c.loop-i.invariant (omega arith) _ _
    c.bit_for-bit.ensures.bit c.bit_for-bit.ensures.sheet

pub shape_of-point : goal.shape_of-point
shape_of-point c = c.loop-i.invariant.settling.as_many

pub shape_of-sheet : goal.shape_of-sheet
shape_of-sheet c = c.loop-i.invariant.written.as_long

pub returns : goal.returns
returns c =
    let told = way-done _ _ _ _ _ _ _ _ c.loop-i.invariant (omega arith) in
    record { point = told.0; sheet = told.1 }
