-- Products in the field of p²: with p - 1 for -1, a product is one of whole numbers, whose parts are then reduced.
pub mod Products
-- Modulo p, -1 is no square, so a sum of two squares is 0 only where both are.
pub mod MinusOneNoSquare
-- The numbers u + v·i, with the operations of `fp2`, are a finite field of p² elements.
pub mod Fp2Field
-- The field of p² elements obeys the laws of a field in which keys are evaluated.
pub mod QuadraticLawful
-- Numbers two by two: element i is made of the numbers 2i and 2i + 1.
pub mod TwoByTwo
-- How large sums of two products are.
pub mod UnreducedSizes
-- How large the parts of a sum are, by their index.
pub mod PartSizes
-- Worked examples: products, the sizes of the two fields, and numbers two by two.
pub mod Examples
