-- The definitions that contracts cite.
pub mod Answers
pub mod Asking
pub mod Channels
pub mod Fresh
pub mod HostJobs
pub mod Lines
pub mod Replies
pub mod Silences
