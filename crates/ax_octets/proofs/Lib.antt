mod Decimals
mod Places
