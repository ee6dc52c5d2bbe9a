pub mod Queues
pub mod Recorded
pub mod Boards
pub mod Foretold
