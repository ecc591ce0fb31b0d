pub mod ByMoves
pub mod EntryLists
pub mod RecordLists
pub mod WholeBlocks
