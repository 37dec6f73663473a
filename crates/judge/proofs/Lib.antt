-- The first of some numbers that is p or more.
pub mod FirstOver
-- What a point, a place and a sheet are held to, case by case.
pub mod JudgementCases
-- What is known of a call that nothing refuses: of its point, its place and its sheet.
pub mod NothingRefused
-- Judgements in order: a first one, another behind it, and then that of the sheet.
pub mod JudgementsInOrder
-- Two keys that are judged together, by their counts: what is known where nothing is refused, and when nothing is. The counts of an
-- accepted key are few enough for it.
pub mod KeysTogether
