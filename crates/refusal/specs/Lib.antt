pub mod Number
pub mod Outcome
