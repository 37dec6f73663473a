pub mod Filled
pub mod Compare
pub mod AgreementBound
pub mod SeveralPoints
pub mod Inner
