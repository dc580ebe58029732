mod Cases
pub mod Checked
mod Clauses
pub mod Elements
mod Indices
pub mod Held
mod Judged
