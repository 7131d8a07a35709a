-- What only private functions and proofs need.
pub mod Accounts
pub mod Branches
pub mod Turns
