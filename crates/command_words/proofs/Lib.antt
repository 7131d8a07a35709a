pub mod ByClap
pub mod Cutting
pub mod Growing
pub mod Listing
pub mod Standing
pub mod Wanting
