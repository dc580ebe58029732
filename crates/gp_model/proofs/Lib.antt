pub mod Cases
pub mod Domain
pub mod Similar
pub mod Table
