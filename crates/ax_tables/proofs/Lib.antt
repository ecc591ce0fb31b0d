pub mod CodecLists
pub mod Places
