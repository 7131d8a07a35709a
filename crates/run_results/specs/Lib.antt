-- The definitions that contracts cite.
pub mod Counts
pub mod Feed
pub mod Printed
pub mod Results
pub mod Sending
pub mod Summaries
pub mod SummaryTexts
pub mod Told
pub mod TreeSigns
pub mod TreeTexts
pub mod Inside
