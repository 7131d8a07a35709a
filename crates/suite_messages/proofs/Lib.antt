pub mod Nearing
pub mod Printing
