-- The lemmas, by subject.
pub mod Belows
pub mod Distinct
pub mod Grown
pub mod Accepted
pub mod AfterBodies
pub mod Sets
pub mod Children
pub mod Counts
pub mod Between
pub mod Pruned
pub mod Pruning
pub mod AllKept
pub mod Bits
