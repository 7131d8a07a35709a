-- The definitions that the contracts of this crate cite; those from Fields on serve proofs and private functions.
pub mod Replies
pub mod Steps
pub mod Runs
pub mod Taken
pub mod Drives
pub mod Snapshot
pub mod Traces
pub mod Rounds
pub mod InTurns
pub mod Texts
pub mod Inside
pub mod Endings
pub mod Statuses
pub mod Going
