-- The definitions that contracts cite.
pub mod Bodies
pub mod Children
pub mod Declarations
pub mod Kinds
pub mod Limits
pub mod Locks
pub mod Nodes
pub mod PlainNodes
pub mod Pruned
pub mod Refusals
pub mod Roles
pub mod Inside
