-- What is printed of a feed while its run goes on.
pub mod LiveFeeds
pub mod FailedTexts
pub mod Failing
pub mod Lines
pub mod RunningTests
pub mod Shown
pub mod SlowNames
pub mod SlowNaming
pub mod Slowest
pub mod Terminals
pub mod Written
