-- The definitions that contracts cite.
pub mod Draws
pub mod Listed
pub mod Orders
pub mod Reordered
