pub mod Foreign
pub mod Marks
pub mod Near
pub mod Printable
