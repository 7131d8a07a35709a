-- The definitions that contracts cite.
pub mod Endings
pub mod Listeners
pub mod Observing
