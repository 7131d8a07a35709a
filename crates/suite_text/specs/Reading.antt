-- What the lines of a text say, one after the other, and where it is at fault.
pub mod After
pub mod Bytes
pub mod Ids
pub mod Judged
pub mod Nodes
pub mod Parts
