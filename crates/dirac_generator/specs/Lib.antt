pub mod Generated
pub mod Reading
