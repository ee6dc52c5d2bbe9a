pub mod Runs
pub mod Tests
