pub mod Locate
pub mod Cell
pub mod Inner
