pub mod Frame
pub mod Ranges
pub mod Text
pub mod Values
