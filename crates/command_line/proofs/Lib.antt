-- Lemmas on command lines.
pub mod Commanded
pub mod Ended
pub mod GoneOut
pub mod Running
pub mod Told
pub mod Unread
pub mod Watched
