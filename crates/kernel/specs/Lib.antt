pub mod Accepts
pub mod Matern
