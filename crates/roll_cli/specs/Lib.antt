pub mod Playings
pub mod SyncTests
pub mod Certified
pub mod Programs
pub mod Headlines
