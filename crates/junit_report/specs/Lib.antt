-- The definitions that contracts cite.
pub mod Cases
pub mod CaseTimes
pub mod ClassNames
pub mod Junit
pub mod JunitBy
pub mod Told
pub mod XmlStrings
pub mod Expectations
