-- The definitions that contracts cite.
pub mod ClassNames
pub mod Covered
pub mod Faults
pub mod Filters
pub mod Hashes
pub mod Keeping
pub mod Lineages
pub mod NameEnds
pub mod Names
pub mod Patterns
pub mod Selections
pub mod Selectors
pub mod Shards
pub mod Units
