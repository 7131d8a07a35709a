-- The lemmas, by subject.
mod Forms
mod ReadBack
mod Spelled
mod SpelledWords
pub mod Written
