pub mod Space
pub mod Ships
pub mod Bullets
pub mod Frame
pub mod Bytes
pub mod Ranges
pub mod Duels
pub mod Text
