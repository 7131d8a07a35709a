-- What clauses say of the circle of nodes, and of how far a worker has looked.
pub mod Circles
pub mod Searches
