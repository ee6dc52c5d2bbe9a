pub mod Seals
pub mod Connections
pub mod Newer
pub mod Taking
