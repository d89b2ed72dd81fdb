pub mod Owning
pub mod Numbers
pub mod Describing
pub mod Sending
