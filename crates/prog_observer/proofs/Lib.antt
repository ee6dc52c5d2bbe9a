pub mod Differing
pub mod Heeding
pub mod Mapping
