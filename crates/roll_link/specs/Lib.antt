pub mod Rings
pub mod Linked
