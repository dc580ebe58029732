mod Cases
pub mod RootSign
pub mod RootWhole
pub mod SqrtLaws
mod StdRoot
