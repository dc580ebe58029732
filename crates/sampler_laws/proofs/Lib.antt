pub mod Best
pub mod Cases
pub mod Causes
pub mod Changes
pub mod EqualRuns
pub mod Kept
pub mod Nothing
pub mod OneTrial
mod Others
pub mod Parts
pub mod PlaceCounts
pub mod Received
mod ReceivedCases
pub mod SameAnswers
pub mod Served
pub mod Ways
pub mod WellFormed
pub mod WordCounts
pub mod Words
