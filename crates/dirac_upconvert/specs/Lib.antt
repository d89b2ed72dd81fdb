pub mod Around
pub mod HalfSamples
pub mod Phases
pub mod Places
pub mod Positions
pub mod Rests
pub mod SubSamples
pub mod WholeSamples
