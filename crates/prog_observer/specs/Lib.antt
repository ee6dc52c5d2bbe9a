pub mod Changes
pub mod Drawing
pub mod Hearing
pub mod Observing
