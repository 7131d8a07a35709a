-- The definitions that contracts cite.
pub mod TimedJobs
pub mod Timings
pub mod MomentTexts
pub mod Moments
