-- Remainders of products.
pub mod Remainders
-- The divisors of p are 1 and p: trial division up to 49,153, which antt computes.
pub mod PIsPrime
-- Modulo a prime every number but 0 has an inverse.
pub mod Inverses
-- The numbers below p, with the operations of `fp`, are a finite field.
pub mod FpField
-- The field of p elements obeys the laws of a field in which keys are evaluated.
pub mod PrimeLawful
-- The elements that numbers make, in any field in which keys are evaluated.
pub mod Elements
-- 1 shifted to the left in a number of so many bits is a power of two.
pub mod OneShifted
-- Elements that are the same number are the same: that it is below p is so in one way.
pub mod EqualElements
-- What an answer says determines it.
pub mod Answers
