-- `locate::differing` meets its contract: the coordinates are joined and set, and the cell is read.
use Prim.Native.Nat.{◌+◌, ◌≤◌}
use mathlib.Core.Path.{sym}
use native.Mathlib.Omega.{arith}
use lib.ListN.{length}
use lib.Seq.{length-take-le}
use Rattle.location.proofs.WayInPlaces.{few-there, way-ready, enough-there, cell-ready, cell-answered}
use Rattle.locate.proofs.differing.Goals as goal
use Rattle.locate.proofs.differing.Goals.{Start}

few : (c : Start) → length c.args.rows.now + length c.args.columns.now ≤ 60
few c = few-there _ _ _ _ c.args.sheet.now c.requires.sheet_value

pub join-requires : goal.join-requires
join-requires c =
    omega (arith, few (goal.at.join-requires c).Start, c.requires.in_bounds)

pub slice_bounds-settle-end : goal.slice_bounds-settle-end
slice_bounds-settle-end c =
    omega (arith, few (goal.at.slice_bounds-settle-end c).Start, c.requires.in_bounds, c.point-1.given)

pub slice_bounds-settle-end-2 : goal.slice_bounds-settle-end-2
slice_bounds-settle-end-2 c =
    sym (length-take-le _ _ (omega (arith, few (goal.at.slice_bounds-settle-end-2 c).Start, c.requires.in_bounds, c.point-1.given)))

pub settle-requires : goal.settle-requires
settle-requires c =
    way-ready _ _ _ _ c.args.sheet.now c.requires.sheet_value _ c.join.ensures

pub slice_bounds-cell-end : goal.slice_bounds-cell-end
slice_bounds-cell-end c =
    let settled = c.settle.ensures in
    enough-there _ _ _ _ c.args.sheet.now c.requires.sheet_value _ c.join.ensures _ _ settled.point settled.sheet

pub slice_bounds-cell-end-2 : goal.slice_bounds-cell-end-2
slice_bounds-cell-end-2 c =
    let settled = c.settle.ensures in
    sym (length-take-le _ _
    (enough-there _ _ _ _ c.args.sheet.now c.requires.sheet_value _ c.join.ensures _ _ settled.point settled.sheet))

pub cell-requires : goal.cell-requires
cell-requires c =
    let settled = c.settle.ensures in
    cell-ready _ _ _ _ c.args.sheet.now c.requires.sheet_value _ c.join.ensures _ _ settled.point settled.sheet

pub returns : goal.returns
returns c =
    let settled = c.settle.ensures in
    let answered = c.cell.ensures in
    let told = cell-answered _ _ _ _ c.args.sheet.now c.requires.sheet_value _ c.join.ensures _ _ settled.point settled.sheet _ _
    answered.answer answered.sheet in
    record { answer = told.0; sheet = told.1 }
