-- The way from a point to a cell: each coordinate becomes a bit, it is asked once for each, and at its end the keys differ.
pub mod SettledCoordinates
-- A number and its bits.
pub mod NumbersFromBits
-- Two accepted keys at points of the field of p: where they differ at a point, they differ with any coordinate set to 0 or with it set to 1.
pub mod OneOfTwoDiffers
-- Keys that are found different at a point are accepted, the point is one for both, and the sheet has places for each.
pub mod FoundDifferent
-- A point of bits is that of a row and a column: there the extensions of a key's dense matrices are the values that they hold.
pub mod PointOfCell
-- At the cell that the way leads to the keys' dense matrices differ.
pub mod CellDiffers
-- The answered cell is one in which the keys' dense matrices differ, and so do the answered values; and how many comparisons it takes.
pub mod CertainCell
-- A sheet on which keys were compared: compare answers the same on it, and leaves on it what it would have left on the sheet that was lent.
pub mod WrittenSheets
-- The coordinates of the rows and of the columns as one list.
pub mod JoinedPoint
-- A point whose coordinates are set to bits in place, one a turn.
pub mod SettlingTurns
-- A key at the bits of a row and of a column, of which it may use fewer than there are.
pub mod KeyAtBits
-- What locate answers and leaves on the sheet, by what compare answers at the point.
pub mod LocateCases
-- The way in some places, at the start of which the coordinates stand: what is asked for it and for the cell, and what they come to.
pub mod WayInPlaces
-- The way, turn by turn: each turn sets a coordinate by a comparison, and each comparison writes on the sheet.
pub mod WayOnSheet
-- Two keys read at the bits of a row and of a column, one after the other: what is asked for each, and what they leave.
pub mod CellRead
-- Cells that are located, by computation: the way, the values and the sheets, unequal shapes, no coordinates, "same", and a refusal.
pub mod Examples
