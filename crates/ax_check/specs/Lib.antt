pub mod Names
pub mod Adding
pub mod Members
pub mod Places
pub mod Accepting
pub mod Walking
