pub mod Elements
pub mod Lawful
