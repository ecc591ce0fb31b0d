pub mod Index
pub mod Known
pub mod Numbers
pub mod Relating
pub mod SlotItems
pub mod Unrelated
