pub mod BuildCommand
pub mod Stops
