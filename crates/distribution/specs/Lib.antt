pub mod Equal
pub mod Numbers
pub mod Range
pub mod Shape
pub mod Taken
pub mod Value
