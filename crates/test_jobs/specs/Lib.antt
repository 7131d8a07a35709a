-- What clauses say of the jobs that tests hand in.
pub mod Acting
pub mod Counting
