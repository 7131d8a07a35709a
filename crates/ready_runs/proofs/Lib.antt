pub mod Planning
pub mod ProgramRefusals
pub mod Scripting
pub mod Selected
pub mod SuiteRead
pub mod Taking
