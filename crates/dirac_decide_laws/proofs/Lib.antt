mod Examples
pub mod Choices
pub mod Insides
pub mod Tables
