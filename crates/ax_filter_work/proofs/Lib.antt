pub mod FilterBlocks
pub mod MatchingRecords
