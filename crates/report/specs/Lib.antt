pub mod Text
pub mod Input
pub mod Printed
pub mod Inner
