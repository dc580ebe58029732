mod Cases
pub mod Domain
