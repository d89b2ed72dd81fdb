pub mod Queued
pub mod Pushing
pub mod Laid
