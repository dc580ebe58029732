pub mod Agree
pub mod Usable
pub mod View
