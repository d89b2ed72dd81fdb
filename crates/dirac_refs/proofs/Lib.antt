pub mod Least
pub mod Listed
pub mod Places
pub mod Turned
