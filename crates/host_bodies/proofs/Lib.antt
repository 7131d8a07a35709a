-- Lemmas on lines, and on jobs that were not run.
pub mod Chunks
pub mod Answering
