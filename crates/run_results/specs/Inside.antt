-- What only private functions, models of types and proofs need.
pub mod Drawings
pub mod ResultFields
pub mod SummaryFields
pub mod Tallies
