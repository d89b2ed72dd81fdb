pub mod Alone
pub mod AtIndex
pub mod Equal
