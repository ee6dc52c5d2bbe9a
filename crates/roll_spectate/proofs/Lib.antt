pub mod Growing
pub mod Parts
mod Sending
