pub mod Arguments
pub mod Commands
pub mod Found
pub mod Lines
pub mod Verbs
pub mod Words
