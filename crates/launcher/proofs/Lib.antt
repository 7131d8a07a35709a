-- Lemmas on launches.
pub mod BrokenOff
pub mod Driving
pub mod JobsRan
pub mod LaunchFiling
pub mod PlannedLaunches
pub mod Renamed
pub mod Replaying
pub mod Reporting
pub mod Scripting
pub mod Selected
pub mod Showing
pub mod SuiteRan
pub mod SuiteReading
