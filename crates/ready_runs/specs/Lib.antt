pub mod Bytes
pub mod Reading
pub mod Ready
pub mod ReadyPrograms
pub mod Scripted
