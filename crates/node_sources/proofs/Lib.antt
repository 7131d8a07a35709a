-- What is proved of the circle of nodes.
pub mod Circles
