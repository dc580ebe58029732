pub mod Ln
pub mod Split
