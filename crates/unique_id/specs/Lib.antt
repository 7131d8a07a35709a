-- The definitions that contracts cite.
pub mod Answers
pub mod Escapes
pub mod Faults
pub mod Fields
pub mod Grammar
pub mod Paths
pub mod Places
pub mod Prefixes
pub mod Reading
pub mod Reads
pub mod Segments
pub mod Spelling
pub mod Texts
