pub mod Replied
pub mod Printed
pub mod Played
pub mod Headlines
pub mod Ending
