pub mod Beside
mod Cases
pub mod Domain
pub mod Earliest
pub mod LaneScores
