pub mod Asking
pub mod Choices
pub mod Facts
pub mod Finishing
pub mod Lending
pub mod Predicting
pub mod Preparing
