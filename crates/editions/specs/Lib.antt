pub mod Move
pub mod OtherEdition
