-- Lemmas on words of events and on reasons.
pub mod Readings
pub mod Reasons
