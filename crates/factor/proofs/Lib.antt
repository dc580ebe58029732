pub mod Back
mod Cases
pub mod Columns
pub mod Grow
pub mod Triangle
