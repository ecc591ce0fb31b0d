pub mod Buffers
pub mod Placed
