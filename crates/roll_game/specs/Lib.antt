pub mod Counts
pub mod Divergence
pub mod Refusing
pub mod Shown
pub mod Tally
