pub mod Noting
pub mod SeenBeside
