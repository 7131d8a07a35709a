-- What may be written: the texts of a suite.
pub mod AfterLines
pub mod Lines
pub mod Properties
pub mod Suites
