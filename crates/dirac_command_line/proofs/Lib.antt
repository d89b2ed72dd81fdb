pub mod Behind
pub mod Ranges
pub mod CutWords
mod Examples
pub mod Flushing
pub mod LastRow
pub mod Loans
pub mod Numbers
pub mod Room
pub mod Statuses
pub mod Unfit
