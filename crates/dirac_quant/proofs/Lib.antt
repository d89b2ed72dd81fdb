pub mod Powers
pub mod Limits
pub mod Reciprocals
pub mod Signs
