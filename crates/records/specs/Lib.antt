pub mod Layout
pub mod Kinds
pub mod Take
pub mod Put
pub mod RoundTrip
pub mod Inner
