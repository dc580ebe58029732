pub mod Border
mod Cases
pub mod First
mod Lookup
pub mod Parts
pub mod Passed
pub mod Recent
pub mod Samples
