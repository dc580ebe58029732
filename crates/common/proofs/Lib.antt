mod RandomCases
pub mod Clamp
pub mod Domain
pub mod Facts
pub mod FloatSteps
pub mod Moves
pub mod Saturate
pub mod Steps
