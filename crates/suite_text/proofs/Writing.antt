-- Lemmas on what may be written: it is read back, and no other text is read.
mod Words
mod Cuts
mod Said
mod NodeLines
mod Sets
pub mod Stacks
mod Texts
mod AfterLines
mod Lines
mod Locks
mod Properties
pub mod Suites
pub mod Read
mod Trees
