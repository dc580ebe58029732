pub mod Bounds
pub mod Choice
pub mod Chunks
pub mod Lists
pub mod Ln2
pub mod Outcome
pub mod Rounding
pub mod Sums
