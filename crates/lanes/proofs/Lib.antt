pub mod Backward
mod Cases
pub mod DecayRow
pub mod Forward
mod KernelCases
pub mod KernelRow
pub mod Less
pub mod Rows
pub mod Solved
pub mod Summed
