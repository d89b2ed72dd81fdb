pub mod Broken
pub mod Either
mod Examples
pub mod Faults
pub mod InPictures
pub mod InSequences
pub mod Numbers
pub mod Outcomes
pub mod Within
