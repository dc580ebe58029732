pub mod Array
pub mod Partial
