pub mod Exp
pub mod ExpParts
