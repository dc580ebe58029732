pub mod Fit
pub mod Kernels
pub mod Statistics
