-- Lemmas on how texts grow, on JSON, and on what is told of a plan's nodes.
pub mod Escapes
pub mod Growing
pub mod JsonEvents
pub mod JsonLines
pub mod JsonWritten
pub mod PlanTold
pub mod Pushing
pub mod Upward
