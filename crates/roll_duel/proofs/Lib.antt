pub mod Examples
pub mod Reading
pub mod Same
pub mod Strikes
pub mod TextExamples
pub mod Texts
pub mod Turns
