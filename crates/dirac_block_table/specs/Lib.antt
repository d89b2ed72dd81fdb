pub mod Filling
pub mod Neighbours
pub mod Puts
pub mod Tables
