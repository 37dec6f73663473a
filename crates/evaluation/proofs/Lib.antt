-- A sheet on which words are laid one behind the other.
pub mod WordsOnSheet
-- The numbers that an array takes on a sheet, and the elements that they make.
pub mod WordsOfArray
-- A call of the factor 1, as every call of edition 1 is, adds the called array's values weighed by its two factors alone.
pub mod UnscaledCalls
-- An array's entries added up one by one: what is left of them, and what their sum becomes.
pub mod SumOfEntries
-- The cell or the call that is read at an offset is the array's next entry, and is added to the sum.
pub mod NextEntryAdded
-- Where no entry is left, the sum is the array's values and its factors.
pub mod SumIsArrayValues
-- The bytes of an array's entries, read one entry at a time, and where no whole entry is left the sum is the array's values.
pub mod EntriesInBytes
-- The sheet as the pass fills it: behind i arrays it holds their values, and the next array's values are worked out from them.
pub mod SheetDuringPass
-- The factors of the arrays before one, added up array by array, and that they are the key's behind all arrays.
pub mod FactorsSoFar
-- The values of the pass are the extensions of the dense matrices (004, Lemma 2).
pub mod PassIsExtension
-- What the sheet holds behind the whole pass: every array's extensions, those of the last among them.
pub mod SheetAfterPass
-- The sides of a point, prepared as tables, in any field: they weigh as its coordinates do.
pub mod PreparedSides
-- What evaluate and cell promise, from what their judgements and their pass give.
pub mod EvaluatePromises
-- The point whose coordinates are the bits of a place in the last array.
pub mod PlaceAsPoint
-- What evaluate leaves on the sheet, place by place, where it refuses nothing (demand 2).
pub mod SheetAfterEvaluate
-- Where cell answers, the sheet is as after evaluate at the bits of the row and of the column.
pub mod SheetAfterCell
-- At a point of the field of p evaluation over a larger field answers what it answers over that of p.
pub mod SameOverLargerField
-- For worked examples: one name for the definitions by which a key is evaluated. `unfolding evaluating` unfolds them all.
pub mod Computing
-- The key of 01's keysheet input, evaluated and cell by cell, with its sheet, and a call for each refusal.
pub mod Examples
