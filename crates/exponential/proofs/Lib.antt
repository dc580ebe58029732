mod Cases
pub mod ExpLaws
mod ExpRange
mod FallingLaws
mod HornerRange
mod Remainder
