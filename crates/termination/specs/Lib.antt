-- The definitions that contracts cite.
pub mod Steps
pub mod Bounds
pub mod Conflicts
pub mod Endings
pub mod Turns
pub mod Round
pub mod LongRun
pub mod Inside
