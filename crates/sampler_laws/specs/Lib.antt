pub mod Calls
pub mod Causes
pub mod Laws
pub mod NewTrials
pub mod Received
pub mod Runs
pub mod Served
