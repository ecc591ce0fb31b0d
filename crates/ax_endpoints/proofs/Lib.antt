pub mod Ends
pub mod Gains
pub mod Pieces
