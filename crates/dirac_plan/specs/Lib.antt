pub mod Frames
pub mod Plan
pub mod Planning
pub mod Waiting
