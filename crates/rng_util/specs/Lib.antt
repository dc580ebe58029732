pub mod Generator
pub mod Draws
pub mod Moves
