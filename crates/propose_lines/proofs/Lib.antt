pub mod AnswerLine
pub mod Bytes
mod Cases
mod SlotNames
pub mod Stored
pub mod Words
