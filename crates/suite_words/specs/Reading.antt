-- What a line of a text says, and where it is at fault.
pub mod After
pub mod Attributes
pub mod Bytes
pub mod Faults
pub mod Judged
pub mod Lines
pub mod Locks
pub mod Nodes
pub mod Properties
pub mod Pulls
pub mod Scripts
pub mod Slow
pub mod Spins
pub mod Verdicts
pub mod Words
