-- What a program does by the arguments of its command line.
pub mod Commands
pub mod Conducting
pub mod Consoles
pub mod Infos
pub mod OwnTests
pub mod Runs
pub mod Sources
pub mod TimedLaunches
