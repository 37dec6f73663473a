pub mod Arrays
pub mod Totals
pub mod Factors
pub mod Placing
pub mod WellFormed
pub mod Dense
pub mod Side
pub mod Pass
