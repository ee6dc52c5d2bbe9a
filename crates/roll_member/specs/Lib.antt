pub mod Joined
pub mod Taking
pub mod Hearing
pub mod Leaving
pub mod Telling
pub mod Beside
pub mod Laws
pub mod Seam
