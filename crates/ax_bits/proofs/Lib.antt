pub mod Outputs
pub mod Pieces
pub mod ShortNumbers
pub mod Steps
pub mod Words
