-- The definitions that contracts cite.
pub mod Building
pub mod Causes
pub mod Growing
pub mod Handles
pub mod Jobs
pub mod Lists
pub mod Marks
pub mod Sorts
