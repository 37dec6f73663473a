-- Keys that are handed back, by computation.
pub mod Examples
-- What compare answers decides: what is handed back is no longer than either key, and empty exactly where compare does not say "same".
pub mod HandedBack
