-- The definitions that contracts cite.
pub mod Expansions
pub mod Grammar
pub mod Places
pub mod Reading
pub mod Roles
pub mod Told
