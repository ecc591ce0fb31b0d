pub mod Commands
pub mod Finding
pub mod Losing
pub mod Migrating
pub mod Moving
