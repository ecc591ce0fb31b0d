pub mod DataBlocks
pub mod MadeBlocks
pub mod Migrating
pub mod Reading
pub mod StandingValues
pub mod Taking
pub mod ToldBlocks
pub mod WrittenLists
