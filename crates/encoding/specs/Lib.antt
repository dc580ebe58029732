pub mod Bounds
pub mod Encode
