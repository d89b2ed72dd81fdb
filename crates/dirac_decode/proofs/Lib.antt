pub mod Leading
pub mod Streaming
pub mod Listing
pub mod Following
pub mod Passed
pub mod WholeUnits
pub mod Stepped
pub mod Alone
pub mod Turning
pub mod Behind
pub mod UpTo
pub mod Found
pub mod Counts
pub mod Taken
pub mod Between
pub mod Lengthened
pub mod Finishing
mod Examples
