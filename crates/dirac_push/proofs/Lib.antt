pub mod Passing
pub mod Laying
pub mod Taking
pub mod Examples
