pub mod Answering
pub mod Found
pub mod LongRecords
pub mod OneBlock
