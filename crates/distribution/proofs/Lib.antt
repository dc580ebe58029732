pub mod EqualShape
pub mod Equals
pub mod Facts
pub mod InRange
pub mod Order
pub mod Whole
