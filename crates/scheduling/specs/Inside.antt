-- What only private functions, models of types and proofs need.
pub mod Going
pub mod Invariant
pub mod Lowest
pub mod Ranges
pub mod Stages
pub mod Start
pub mod Work
