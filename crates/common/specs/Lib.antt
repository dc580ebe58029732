pub mod Decode
pub mod DecodeParts
pub mod Grid
pub mod GridParts
pub mod Random
pub mod RandomParts
