pub mod Histories
pub mod Streams
pub mod Orders
pub mod Puts
pub mod Held
