-- What only private functions, models of types and proofs need.
pub mod AnswerFields
pub mod Bounds
pub mod CoreFields
pub mod Fields
pub mod Rounds
