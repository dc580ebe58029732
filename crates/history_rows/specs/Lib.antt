pub mod Chunks
pub mod First
pub mod Recent
pub mod Rows
pub mod Slots
pub mod Tests
