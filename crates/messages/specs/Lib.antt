pub mod Hints
pub mod Messages
pub mod Sentences
