-- Why the lines so far, and the next, are what is printed.
pub mod Lines
pub mod RunningTests
pub mod Going
pub mod Fronts
pub mod Drawing
pub mod Growing
pub mod Keeping
pub mod Noting
pub mod Placing
pub mod Pushing
pub mod SlowNaming
pub mod SlowWriting
pub mod Written
