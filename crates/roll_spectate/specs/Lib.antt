pub mod Rings
pub mod Sent
pub mod Watched
