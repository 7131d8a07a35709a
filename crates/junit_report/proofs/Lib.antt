-- Lemmas on class names, on cases and suites, on whole reports, and on what is expected of them.
pub mod Children
pub mod Naming
pub mod Pieces
pub mod SameReports
pub mod Suites
pub mod Upward
pub mod Alike
pub mod ToldAsExpected
pub mod PrintedAsExpected
pub mod ExpectedRows
