pub mod Going
pub mod Alone
pub mod PictureCoding
pub mod Rest
