pub mod CategoryBlocks
