-- No two reasons have one number, and none has 0 or 35: computed tests of all reasons.
pub mod Numbers
-- What an outcome determines: a result by its values, a refusal by its number and its place, and that the two differ.
pub mod Outcomes
