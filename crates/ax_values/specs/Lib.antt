pub mod SlotReading
pub mod Cursor
pub mod Decoding
pub mod Members
pub mod Writing
pub mod Parts
