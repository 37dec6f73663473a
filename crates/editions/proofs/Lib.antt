-- Bytes written over a buffer, and more behind them.
pub mod Overwriting
-- The records of some arrays, moved, are those of the same arrays in the other edition, and their lengths.
pub mod ArraysMoved
-- Records that run to a key's end: the one that is taken next, and those behind it.
pub mod RecordsToEnd
-- Where the calls lie whose factor isn't 1, and that the arrays of a key without them can be written in the other edition.
pub mod OtherFactors
-- An accepted key runs to its end, and its copy is the key of its arrays in the other edition.
pub mod MovedRecords
-- A record that fits behind an offset is put there.
pub mod FittingIsPut
-- The search for a factor other than 1, before the record at an offset.
pub mod SearchSoFar
-- The copy while it is written, before the record at an offset.
pub mod CopySoFar
-- What moving answers and leaves, by cases, and what an answer that gives a length shows of the key.
pub mod MovingCases
-- What moving promises, from what the code finds.
pub mod MovingPromises
-- The moved key is accepted with the same counts, has the same arrays and is of the other edition.
pub mod MovedKey
-- There and back gives the first bytes.
pub mod MovedBack
-- Evaluate, cell and compare go by what check says of a key and by its arrays alone, and so they answer alike on a key and on its
-- copy in the other edition.
pub mod AnswersAlike
-- Price goes by what check says of a key and by its arrays alone, and so it answers alike on a key and on its copy.
pub mod PricesAlike
-- What is said of a copy in the other edition, said of the buffer that a call leaves.
pub mod MovedBuffer
-- An answer of the move is determined by what it says.
pub mod Answers
-- The key of 01's keysheet input, moved there and back, and a call for each refusal.
pub mod Examples
