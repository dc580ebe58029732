pub mod Laws
pub mod Pieces
pub mod Steps
pub mod Texts
