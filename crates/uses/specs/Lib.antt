-- The definitions that contracts cite.
pub mod Counting
pub mod Ending
pub mod OrderResults
pub mod Passing
pub mod ShardResults
