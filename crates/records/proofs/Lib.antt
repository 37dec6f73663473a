-- Numbers as bytes, the lowest first: a number and its bytes determine each other, whatever the width.
pub mod NumberBytes
-- The fields of a body and its bytes determine each other, by the widths.
pub mod FieldBytes
-- The kinds that have a size, and the sizes of records.
pub mod RecordSizes
-- What taking answers, by cases, and what an answer that gives a record shows of the bytes.
pub mod TakeCases
-- Where a kind and fields are found in bytes, the record of that kind and those fields is taken.
pub mod FoundIsRecord
-- A record is taken at an offset exactly where it is present there: its kind and its fields stand in the bytes.
pub mod PresentIsTaken
-- What putting answers and leaves, by cases, and what an answer that gives an offset shows of the room.
pub mod PutCases
-- Taking what was put gives the record back, and putting what was taken gives the bytes back.
pub mod RoundTrip
-- A record is determined by its kind and its fields, and an answer by what it says.
pub mod Answers
-- The key of 01's keysheet input: its bytes are those of its records, and each record is taken where it stands.
pub mod Examples
