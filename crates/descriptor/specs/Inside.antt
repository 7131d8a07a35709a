-- What only private functions, models of types and proofs need.
pub mod BuilderFields
pub mod Fields
pub mod Hashes
pub mod Marks
