pub mod Sheet
pub mod Evaluate
pub mod Embedded
pub mod Cell
pub mod Inner
