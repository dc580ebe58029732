mod Cases
pub mod Moves
pub mod Nonzero
pub mod Stream
pub mod Unit
pub mod Whole
