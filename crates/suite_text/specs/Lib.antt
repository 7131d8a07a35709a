pub mod Kinds
pub mod Suites
pub mod Reading
pub mod Writing
pub mod Inside
