pub mod Ends
pub mod Faults
pub mod Ids
pub mod Inputs
pub mod Laws
pub mod Seats
pub mod Successions
