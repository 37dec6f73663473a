pub mod Shorter
