pub mod Again
pub mod AllShown
pub mod Following
pub mod InTurn
pub mod Stripped
