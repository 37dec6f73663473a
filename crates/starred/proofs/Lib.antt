-- Every starred case gives what 01 says: antt computes both columns of the table.
pub mod Starred
