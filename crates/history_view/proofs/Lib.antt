mod Cases
pub mod Generous
pub mod Order
pub mod Usable
pub mod Values
pub mod Views
