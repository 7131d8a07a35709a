-- What only private functions, models of types and proofs need.
pub mod Following
pub mod Failing
