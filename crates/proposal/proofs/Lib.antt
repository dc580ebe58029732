mod Cases
pub mod Decoded
mod Draws
pub mod Moving
pub mod Numbers
pub mod RandomValues
pub mod Ranges
pub mod Walk
pub mod WordCount
pub mod Accepted
