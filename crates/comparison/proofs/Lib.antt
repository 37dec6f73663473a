-- "Same" is not "different", and neither is a refusal.
pub mod Answers
-- A key takes no more coordinates than it uses: at a longer point its arrays have the values that they have at the coordinates it uses.
pub mod UsedCoordinates
-- A key's triple in a comparison is the extensions of its dense matrices, filled with zeros, at the whole point (02, E7).
pub mod FilledExtensions
-- A key's triple in a comparison, by the tables of the two sides of the point, in any field; and what a pass over the key asks.
pub mod FilledByTables
-- What is enough for the larger of two numbers is enough for both.
pub mod EnoughForBoth
-- The numbers of two keys, case by case: where they are found the same they are equal, and equal ones are found the same.
pub mod Likeness
-- What is known of two accepted keys, a point and a sheet that are judged together, where nothing is refused; and when nothing is.
pub mod PairNotRefused
-- What compare answers and leaves on the sheet, by what its judgements come to.
pub mod CompareCases
-- Where nothing is refused: what the two passes need, and that what they come to is what compare promises.
pub mod TwoPasses
-- Keys of one shape use all coordinates: their triples are what evaluate answers at the point, their factors E4's, and the sheet is as
-- after evaluating the first and then the second there (01, 'Comparing two keys').
pub mod OneShape
-- The sheet after compare place by place, where nothing is refused.
pub mod SheetAfterCompare
-- At a point compare answers "same" exactly where the extensions of the dense matrices of the two keys' last arrays agree, filled with
-- zeros to the larger shape.
pub mod SameWhereExtensionsAgree
-- A sheet is long enough exactly where 31 does not come.
pub mod LongEnough
-- The agreement bound (demand 3), from the counting theorem over a field of q elements.
pub mod Agreement
-- The agreement bound where q is p, in plain numbers: for keys of one shape it is demand 3.
pub mod AgreementOverP
-- Two keys compared at several points, from the agreement bound at one: the counts multiply.
pub mod SeveralPoints
-- Two keys compared at several points where q is p, in plain numbers.
pub mod SeveralPointsOverP
-- Compare leaves the sheet as long as it was, so one sheet may be lent to the comparisons at several points one after another.
pub mod SheetHandedOn
-- At a point of the field of p compare answers over a larger field what it answers over that of p.
pub mod SameOverLargerField
-- For worked examples: one name for the definitions by which two keys are compared. `unfolding comparing` unfolds them all.
pub mod Computing
-- Keys of at most one row bit and one column bit, compared: where they are the same, the sheets, and a call for each refusal.
pub mod Examples
-- Keys of unequal shapes, compared (02, E7): a key and its growth, keys of which each is larger on one side, the factors, the sheets, and
-- what is refused.
pub mod ExamplesOfGrowth
-- The agreement bound at two keys of one row bit and one column bit, one cell at the last place against none; and at two keys of unequal
-- shapes, a cell alone against its growth at the last place; and at two points, with one sheet handed on.
pub mod BoundAtTwoKeys
