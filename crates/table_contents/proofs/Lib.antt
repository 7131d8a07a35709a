-- The words at the start, how jobs go into slots, and what comes out of them.
pub mod Filled
pub mod Gathered
pub mod LeftNotes
pub mod Starting
pub mod UsedSlots
