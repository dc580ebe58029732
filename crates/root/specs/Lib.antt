pub mod Rooted
pub mod Sqrt
