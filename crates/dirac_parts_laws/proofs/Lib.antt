pub mod Behind
pub mod CodedBehind
pub mod Parts
pub mod Payloads
pub mod Plans
pub mod Shown
