-- The definitions that contracts cite.
pub mod Connectives
pub mod ExpressionCodes
pub mod ExpressionFaults
pub mod Expressions
pub mod Faults
pub mod Grammar
pub mod Nodes
pub mod Parsing
pub mod TagSets
pub mod Tags
pub mod TokenTexts
pub mod Tokens
pub mod Inside
