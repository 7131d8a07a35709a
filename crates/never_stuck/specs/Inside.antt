-- What only proofs and the crates above need.
pub mod Progress
pub mod Live
