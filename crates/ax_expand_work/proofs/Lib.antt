pub mod Appended
pub mod Gathered
pub mod Slots
pub mod GatheredRecords
pub mod Blocks
