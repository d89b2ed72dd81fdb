pub mod Fronts
pub mod Cuts
pub mod Ends
pub mod Told
pub mod Appended
