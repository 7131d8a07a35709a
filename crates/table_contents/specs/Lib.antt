-- What clauses say of the words of a running table, and of jobs and notes in its slots.
pub mod Filling
pub mod Prepared
pub mod Reading
pub mod Refusals
pub mod Remains
