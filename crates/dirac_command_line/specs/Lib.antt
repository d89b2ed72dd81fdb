pub mod Options
pub mod Points
pub mod Checks
pub mod Words
pub mod Ended
pub mod Telling
