pub mod Accepts
pub mod Improvement
pub mod Normal
