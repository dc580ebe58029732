mod Cases
pub mod LnLaws
pub mod LnMono
mod LnSize
mod LnSplit
mod LnTerm
