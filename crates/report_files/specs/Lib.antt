-- Reports: what each holds, and what becomes of the file of each.
pub mod Besides
pub mod Deeds
pub mod FiledReports
pub mod ReportTexts
pub mod Reports
pub mod SlowestTests
pub mod Told
