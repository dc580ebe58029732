mod Cases
pub mod UpToStep
