pub mod Changes
pub mod Files
pub mod Limits
pub mod Told
