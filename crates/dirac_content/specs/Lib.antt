pub mod Content
pub mod StreamState
pub mod Shown
pub mod Raw
pub mod Sequences
pub mod Predicting
pub mod Leaving
pub mod Stopped
