pub mod Trial
pub mod Counting
