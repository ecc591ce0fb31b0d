pub mod Marked
pub mod Memos
pub mod PlaceValues
pub mod PlacedRecords
pub mod Read
pub mod TestLists
pub mod Truth
