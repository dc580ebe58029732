mod Cases
mod Read
pub mod RoundTrip
