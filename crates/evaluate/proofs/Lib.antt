-- Sums that are not reduced: how large they grow, entry by entry.
pub mod UnreducedSums
-- A side's coordinates as they are filled with bits, one a turn.
pub mod CoordinatesFromBits
-- An answer is determined by what it says.
pub mod Answers
