-- Lemmas on what lines say.
pub mod Afters
pub mod FewLocks
pub mod Outcomes
pub mod Ids
pub mod Judged
pub mod Kinds
pub mod Never
pub mod Paths
pub mod Pulls
pub mod Lines
pub mod Spares
pub mod Steps
