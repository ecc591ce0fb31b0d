pub mod Drafts
pub mod HeldText
pub mod Nesting
pub mod Prints
pub mod Templates
pub mod TextCommand
