mod Beside
pub mod Empty
pub mod Fills
pub mod Putting
pub mod Units
