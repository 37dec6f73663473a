-- A list that is filled with numbers below p from its first place on.
pub mod FilledNumbers
