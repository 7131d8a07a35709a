-- Lemmas on programs of tests.
pub mod Answering
pub mod SystemRuns
