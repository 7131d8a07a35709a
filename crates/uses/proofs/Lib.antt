-- Lemmas of the callers.
pub mod Ending
pub mod Halves
pub mod Noting
pub mod OrderResults
pub mod Passing
pub mod PrunedResults
pub mod ShardResults
