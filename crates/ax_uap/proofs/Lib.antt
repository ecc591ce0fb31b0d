pub mod Categories
pub mod Found
pub mod Places
