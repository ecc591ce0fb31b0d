pub mod Categories
pub mod Places
