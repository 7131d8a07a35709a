-- What the steps of a worker keep.
pub mod Going
pub mod Quiet
pub mod Steps
pub mod Endings
pub mod Due
pub mod Outgoing
pub mod Asked
pub mod Tests
pub mod LettingGo
pub mod Roomy
