-- The definitions that contracts cite.
pub mod Faults
pub mod FiledLaunches
pub mod Launches
pub mod PlannedLaunches
pub mod Programs
pub mod Reports
pub mod RunReports
pub mod Sources
pub mod SuiteLaunches
pub mod Watched
