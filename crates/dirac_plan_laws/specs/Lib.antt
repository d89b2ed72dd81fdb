pub mod Coding
pub mod Headers
pub mod Lasting
pub mod Order
pub mod Plans
pub mod References
