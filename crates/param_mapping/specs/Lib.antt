pub mod Mapping
pub mod MappingParts
