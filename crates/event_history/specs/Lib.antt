-- What the events of a run must be like. Following serves proofs alone.
pub mod Plans
pub mod Places
pub mod Failures
pub mod Results
pub mod History
pub mod Order
pub mod Exclusion
pub mod Limits
pub mod Apart
pub mod Published
pub mod Parts
pub mod Expected
pub mod Inside
