pub mod Elements
pub mod Listing
pub mod ShowCommand
pub mod Shown
pub mod Stopped
