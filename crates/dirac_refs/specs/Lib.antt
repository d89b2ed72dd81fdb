pub mod Bounded
pub mod Delivery
pub mod Halves
pub mod References
