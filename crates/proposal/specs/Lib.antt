pub mod Accepts
pub mod Points
pub mod Proposal
pub mod Values
