-- What clauses say of workers and their places.
pub mod Going
pub mod Leading
pub mod Premises
pub mod Inside
