pub mod Dimensions
pub mod Empty
