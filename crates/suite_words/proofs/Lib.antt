pub mod FirstWords
mod Grammar
pub mod Lists
pub mod Numbers
pub mod Reading
