-- The numbers of the refusals (01, 'Who can cause a refusal'; 02's new numbers), in the order of 01 and then of 02. 35 is not among them:
-- no two shapes are refused (02, E7).
use Rattle.std.specs.Prelude.{ℕ}
use Rattle.refusal.specs.declared.Reason.{Reason}

-- the number of each reason, under the document's own words for it
unfoldable pub number_of : Reason → ℕ
-- key over 65,536 bytes
number_of Reason.KeyTooLong = 1
-- record missing or cut off
number_of Reason.RecordIncomplete = 2
-- unknown kind
number_of Reason.KindUnknown = 3
-- record not allowed at this point, or end before any array (02, E9: or a call of the other edition)
number_of Reason.RecordMisplaced = 4
-- head bits over 30, or array bits over the head's
number_of Reason.BitsTooMany = 5
-- a 1,025th array
number_of Reason.ArraysTooMany = 6
-- cell address outside its array
number_of Reason.CellOutside = 7
-- cell value p or more (02, E9: or a factor)
number_of Reason.ValueTooGreat = 8
-- called id not earlier
number_of Reason.CalledNotEarlier = 9
-- called array larger in rows or columns
number_of Reason.CalledTooLarge = 10
-- call position too great
number_of Reason.PositionTooGreat = 11
-- last array not of the head's shape
number_of Reason.LastShapeWrong = 12
-- bytes after the end
number_of Reason.BytesAfterEnd = 13
-- row count not n (02, E7: for two keys the larger n)
number_of Reason.RowCountWrong = 21
-- column count not n' (02, E7: for two keys the larger n')
number_of Reason.ColumnCountWrong = 22
-- coordinate p or more
number_of Reason.CoordinateTooGreat = 23
-- row or column outside the last array
number_of Reason.AddressOutside = 24
-- sheet below 3·arrays
number_of Reason.SheetTooShort = 31
-- record doesn't fit behind the offset (02, E9: or a moved key the buffer)
number_of Reason.BufferTooShort = 32
-- offset greater than the slice's length
number_of Reason.OffsetTooGreat = 33
-- field operand p or more
number_of Reason.OperandTooGreat = 34
-- input shorter than its two counts and their coordinates
number_of Reason.InputTooShort = 41
-- input over 65,536 bytes
number_of Reason.InputTooLong = 42
-- a factor other than 1 on the way back
number_of Reason.FactorNotOne = 55
-- moved key over 65,536 bytes
number_of Reason.MovedTooLong = 56
-- a rate over 1,000,000
number_of Reason.RateTooGreat = 62
