pub mod Entries
pub mod Fields
pub mod Held
pub mod HeldFixed
pub mod Lines
