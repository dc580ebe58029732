pub mod Accepted
mod Cases
