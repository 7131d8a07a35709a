-- The lemmas, by subject.
pub mod Uppers
pub mod Inserting
pub mod Listing
pub mod Chains
pub mod Placing
pub mod Orders
pub mod Drawing
pub mod Whole
pub mod Growing
pub mod SeededTree
