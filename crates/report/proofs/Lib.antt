-- The digits of a number: the fewest that hold it, and at most 20.
pub mod Decimals
-- Bytes written one behind the other.
pub mod BytesWritten
-- The lines of the arrays, written one behind the other.
pub mod ArrayLines
-- Numbers of four bytes, read one behind the other into a table.
pub mod Coordinates
-- What is printed, by what check and evaluate answer and by what the input holds.
pub mod PrintedCases
-- What is promised of the text, from what was written to it.
pub mod TextPromises
-- For worked examples: one name for the definitions by which keysheet's text is made. `unfolding printing` unfolds them all.
pub mod Computing
-- Worked examples of what is printed: 01's input, refusals of the feeder, of the point and of a key, and numbers in decimal.
pub mod Examples
