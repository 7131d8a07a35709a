mod Trimmed
pub mod Reading
pub mod Writing
