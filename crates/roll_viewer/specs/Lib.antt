pub mod Lines
pub mod Queued
pub mod Rows
pub mod Telling
pub mod Ends
pub mod Seeing
