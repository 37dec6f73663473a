pub mod Price
pub mod FactorsPriced
pub mod Inner
