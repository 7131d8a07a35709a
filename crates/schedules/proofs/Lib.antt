-- That what threads report has a schedule.
pub mod Scheduled
pub mod Agreeing
pub mod AskedFor
pub mod Headlined
