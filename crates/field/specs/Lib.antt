pub mod Fp
pub mod Element
pub mod Scalars
pub mod Prime
pub mod Answer
