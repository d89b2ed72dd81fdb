pub mod Accepted
pub mod Bounds
mod Choosing
mod Compared
mod Differences
mod Examples
mod Fewest
mod Gathered
mod HeldRows
mod InLanes
pub mod Keeping
mod Lists
mod Reaches
mod Repeats
mod Stopping
pub mod Workers
