-- Lemmas on tests that are built.
pub mod Answering
pub mod Grown
pub mod Having
pub mod Listing
