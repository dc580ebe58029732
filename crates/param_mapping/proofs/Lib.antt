mod Cases
pub mod Consumed
mod Least
pub mod MappedList
pub mod Opened
pub mod Samples
pub mod Sorted
