pub mod Grammar
pub mod Limits
pub mod Numbers
pub mod Words
pub mod Reading
