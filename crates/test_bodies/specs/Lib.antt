-- The definitions that contracts cite.
pub mod Bodies
pub mod Replies
pub mod Stops
