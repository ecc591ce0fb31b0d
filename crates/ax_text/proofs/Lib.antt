pub mod LinePaths
pub mod ListedBlocks
pub mod ListedMembers
pub mod ListedRecords
pub mod ListedValues
pub mod RecordTexts
