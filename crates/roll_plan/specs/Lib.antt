pub mod Plans
pub mod Fields
pub mod Ranks
pub mod Spelled
