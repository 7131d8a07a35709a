-- The definitions that contracts cite.
pub mod Plans
pub mod Wants
pub mod LockSets
pub mod Conflicts
pub mod Declarations
pub mod Hoisted
pub mod Held
pub mod Limits
pub mod Keys
pub mod NamePlaces
pub mod Spares
pub mod Inside
