mod Cases
pub mod Counts
pub mod FromArray
pub mod KeptRows
mod Perm
pub mod PlaceList
pub mod SameRow
