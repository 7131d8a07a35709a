-- Lemmas on what a line says.
pub mod Attributes
pub mod FewLocks
pub mod Locks
pub mod Pulls
pub mod Spaces
pub mod Steps
