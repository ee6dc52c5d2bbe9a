pub mod Routed
pub mod Ends
pub mod Changes
pub mod Packing
pub mod Packed
