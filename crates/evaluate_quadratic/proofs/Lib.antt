-- At a point with every v zero evaluate answers what it answers over the field of p, as u, with v zero (02, E2), and as many factors.
pub mod EveryVZero
-- An answer is determined by what it says.
pub mod Answers
-- Worked examples over the field of p²: a small key evaluated at a point of two parts, and the places of refusals.
pub mod Examples
