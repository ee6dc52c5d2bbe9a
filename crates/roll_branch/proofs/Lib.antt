pub mod States
pub mod Rows
