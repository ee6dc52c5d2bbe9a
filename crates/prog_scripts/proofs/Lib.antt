pub mod Spelled
pub mod Headings
pub mod Unplayed
pub mod Outlined
pub mod Few
pub mod RowsRead
pub mod Engines
mod Diagnosed
mod LinesOf
mod Rising
mod Said
pub mod Written
pub mod Claimed
pub mod Refused
