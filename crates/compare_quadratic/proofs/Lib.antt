-- The agreement bound where q is p², in plain numbers too.
pub mod Agreement
-- At a point with every v zero compare answers what it answers over the field of p (02, E2).
pub mod EveryVZero
-- Two keys compared over the field of p²: where they are the same, also where their shapes differ.
pub mod Examples
