pub mod Continuing
pub mod Languages
pub mod Entries
pub mod Records
pub mod BlockTexts
pub mod BlockForms
pub mod Readings
