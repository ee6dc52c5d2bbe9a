pub mod States
pub mod Spelling
pub mod Reading
pub mod Sealing
pub mod Giving
pub mod Taking
pub mod Crossing
