mod Entries
pub mod LineEnds
pub mod MarkedSlots
mod Masks
mod UapSlots
