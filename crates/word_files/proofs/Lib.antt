-- The lemmas, by subject.
pub mod Marks
pub mod Only
pub mod Characters
pub mod Standing
pub mod Texts
pub mod Written
