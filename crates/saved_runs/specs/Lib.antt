-- The definitions that contracts cite.
pub mod RunAgain
pub mod Faults
pub mod FeedLines
pub mod Histories
pub mod JsonLines
pub mod Lines
pub mod Telling
