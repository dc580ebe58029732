pub mod Earliest
pub mod Eights
pub mod Search
pub mod Lent
