pub mod Passing
pub mod Raws
pub mod Rows
pub mod Covering
pub mod Flushed
pub mod Flushing
mod Leaves
mod Examples
