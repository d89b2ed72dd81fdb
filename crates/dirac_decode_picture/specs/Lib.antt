pub mod Ahead
pub mod Payload
