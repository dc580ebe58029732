mod Cases
pub mod Tests
pub mod Accepted
pub mod Back
pub mod Chunks
pub mod HalfUnit
pub mod Held
pub mod Lists
pub mod Mono
pub mod Nearest
pub mod Order
pub mod Passing
pub mod Patterns
pub mod Power
pub mod ChoiceLaws
pub mod Scan
pub mod Sign
mod StdFloat
pub mod Within
pub mod WordFacts
pub mod Zero
pub mod Eights
