mod Cases
pub mod Digits
pub mod RoundTrip
