-- What is done with the files of reports.
pub mod Filing
