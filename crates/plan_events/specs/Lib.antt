-- The definitions that contracts cite.
pub mod Jobs
pub mod Statuses
pub mod Texts
pub mod Words
