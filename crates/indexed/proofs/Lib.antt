-- The bytes of an array's entries: they stand behind the opening, and all its entries are left there.
pub mod ArrayEntries
