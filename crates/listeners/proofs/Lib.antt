-- Lemmas on the lists of an audience.
pub mod Hearing
pub mod Observing
pub mod Retelling
pub mod Stepping
