pub mod Bars
pub mod Cells
pub mod Escapes
pub mod Pictures
pub mod Rolls
pub mod Views
