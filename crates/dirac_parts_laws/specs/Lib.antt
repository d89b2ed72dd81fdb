pub mod Behind
pub mod Parts
pub mod Payloads
pub mod Plans
