pub mod Fp2
pub mod Quadratic
pub mod Parts
pub mod Unreduced
