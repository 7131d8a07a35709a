mod Named
pub mod Crew
pub mod LongWords
pub mod OneFailure
pub mod Pairing
pub mod Requesting
pub mod SeedNumbers
pub mod Usual
