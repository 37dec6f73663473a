pub mod Reply
pub mod Version
