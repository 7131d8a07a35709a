-- Lemmas on bodies.
pub mod Standing
pub mod Replying
