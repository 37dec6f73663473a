-- Lists that are made of a list for each element, one behind the other.
pub mod JoinedLists
-- A number above 0 is not found equal to 0.
pub mod NonzeroTest
-- An answer of check is determined by what it says.
pub mod Answers
-- What one record more changes in what the records before say, and that they open and count no more than they are.
pub mod RecordsBefore
-- What a reading is, by what can be taken at an offset, and that the number of steps does not matter.
pub mod ReadingSteps
-- The records of some arrays in either edition: the arrays that they are, and what they open.
pub mod Encodings
-- How many arrays, cells and calls the records of some arrays are.
pub mod KeyCounts
-- A record is an end or not, and behind one that is no end is read what follows.
pub mod EndOrOnward
-- The bytes of some records are read as those records, one behind the other.
pub mod RecordsReadBack
-- Records that keep all their rules are accepted.
pub mod KeepsRulesIsAccepted
-- The records of well_formed arrays fit their widths, and none of them but the last is an end.
pub mod WellFormedFitsWidths
-- What the records before a record say where they are a head and the records of some arrays.
pub mod ArraysBefore
-- The records of well_formed arrays keep their rules, each behind the head and the arrays' records before it.
pub mod WellFormedKeepsRules
-- The key of well_formed arrays in either edition, the last of the head's shape, is accepted, and its arrays are those.
pub mod WellFormedIsAccepted
-- Where records and arrays begin that lie one behind the other.
pub mod Offsets
-- The records that are read are taken one behind the other.
pub mod RecordRuns
-- The records of well_formed arrays with an array, or an entry of the last array, more.
pub mod ArrayOrEntryMore
-- A cell or a call that keeps its rules is an entry more of the array that is open.
pub mod KeptEntryFits
-- A record that keeps its rules behind the records of well_formed arrays leaves them the records of well_formed arrays.
pub mod KeptRecordFits
-- What is read behind the records of well_formed arrays, up to the end of an accepted key, makes them the records of its key.
pub mod RestOfAcceptedKey
-- The records of an accepted key are a head, and what makes it the key of well_formed arrays.
pub mod RecordsOfAcceptedKey
-- What it means that a key is accepted: it is the key of well_formed arrays in its edition.
pub mod Acceptance
-- A key has no more records than bytes and one, and so an accepted key has at most 65,537 cells and at most 65,537 calls.
pub mod CountBounds
-- The factors of an accepted key are at most (n + n')·(cells + calls) (02, E4), and so 64 bits have room for them.
pub mod FactorLimits
-- The table of offsets, which fills from its first place on.
pub mod OffsetTable
-- Where an opening is taken, its shape stands in the two bytes behind its kind.
pub mod OpeningShapes
-- Holding a record to its rules one by one, as the code does, gives what the definition says of it.
pub mod VerdictIsFirstBroken
-- By what the code has seen of the records before, its verdict on a record and its counts are the definition's.
pub mod SeenVerdict
-- What the code has seen behind one record more.
pub mod SeenOneRecordMore
-- The check so far: where the walk over a key's records begins, and what is known where it stands.
pub mod CheckSoFar
-- What taking and judging a record means for the check's answer, from where the walk stands.
pub mod CheckOneRecord
-- Behind a run of entries, a head or an opening the walk stands where it would have come to record by record.
pub mod BehindRuns
-- What trying a record at an offset says: it passes where it is of its kind and keeps its rules.
pub mod RecordTried
-- A run grows by one entry at a time.
pub mod RunOneEntryMore
-- What stands where the runs stop: behind entries only an opening or an end can keep its rules, and behind arrays only an end.
pub mod WhereRunsStop
-- What the index promises, from what the walk finds.
pub mod IndexPromises
-- What stands at the offsets of an accepted key that is indexed: each array's opening, and its entries behind it.
pub mod IndexedKey
-- A key is indexed by a table in one way at most: its counts are those that check answers.
pub mod IndexedOnce
-- The entries of an array that are left from an offset on: what stands there, and what is left behind it.
pub mod EntriesLeft
-- The bytes of an array's entries, taken off one entry at a time: where what is left of them stands in the key, and what is read there.
pub mod EntryChunks
-- For worked examples: one name for the definitions by which a key is read and checked. `unfolding checking` unfolds them all.
pub mod Computing
-- The key of 01's keysheet input, its arrays and where they begin, and a key for each refusal.
pub mod Examples
