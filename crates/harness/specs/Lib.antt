-- What a program does that runs tests of its own.
pub mod Jobs
pub mod SystemRuns
pub mod TestRuns
