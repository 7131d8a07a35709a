-- What the dispatcher of a run keeps.
pub mod Carried
pub mod TextsRead
pub mod DispatcherStates
pub mod Dealt
pub mod Moments
pub mod Seen
