pub mod Kernels
pub mod Posteriors
pub mod Rows
pub mod Solving
pub mod Sums
