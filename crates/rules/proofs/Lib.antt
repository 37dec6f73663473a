-- A number of 32 bits against a higher power of two, and one less than a number against another.
pub mod PowersOfTwo
-- What a verdict says of the rules that a record was held to.
pub mod Verdicts
-- The rules of a call in two steps: whether it names an earlier array, and then whether that array fits.
pub mod CallRules
