pub mod Lines
pub mod Numbers
pub mod Streams
pub mod Text
