pub mod Cells
pub mod Counts
pub mod Places
pub mod RowsAgree
pub mod Training
