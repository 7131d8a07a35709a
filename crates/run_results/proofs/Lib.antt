-- Lemmas on what is told of nodes, on counts, and on what is written.
pub mod Cleaning
pub mod Counting
pub mod Places
pub mod Printing
mod Pushing
pub mod Reading
pub mod SameTold
pub mod Sending
pub mod Siblings
pub mod Skipping
pub mod ToldMore
