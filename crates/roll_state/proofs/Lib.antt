pub mod Messages
pub mod Parts
pub mod Asking
pub mod Taken
pub mod Sent
pub mod Crossing
