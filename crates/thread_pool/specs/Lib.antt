-- What clauses say of the dispatcher, and of seats and tables of one brand.
pub mod Brands
pub mod Runs
pub mod Seeing
pub mod Telling
