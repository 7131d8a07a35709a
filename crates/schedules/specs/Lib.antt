-- The definitions that contracts cite.
pub mod Schedules
pub mod Replays
