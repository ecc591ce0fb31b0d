pub mod Bits
pub mod Out
