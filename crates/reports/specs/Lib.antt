-- The definitions that contracts cite.
pub mod Json
pub mod JsonPieces
pub mod JsonStrings
pub mod Lists
pub mod PlanNodes
pub mod TimeTexts
