pub mod Fields
pub mod Honest
pub mod Marks
pub mod Reading
pub mod Walk
pub mod Words
