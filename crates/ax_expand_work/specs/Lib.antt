pub mod ExpandCommand
pub mod Gathering
pub mod Judging
pub mod Lines
