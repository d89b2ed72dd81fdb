pub mod Places
pub mod Steps
pub mod Filling
pub mod FillingOfBlocks
pub mod LeadingOfBlocks
pub mod Refusals
pub mod Read
pub mod Indexed
pub mod Within
pub mod Agreement
pub mod Edges
pub mod AgreementOfBlocks
mod Carrying
pub mod OffsetsRead
pub mod Writing
pub mod ZeroTests
pub mod BlockLengths
pub mod SpelledBand
pub mod Examples
mod Fronts
pub mod NoParent
pub mod Largest
pub mod Sited
