pub mod Allowed
mod Walks
pub mod Words
mod Fronts
mod Cells
pub mod Players
mod Steps
pub mod Changes
mod Replies
mod Recorded
mod Starts
mod Begun
pub mod Refusals
pub mod Told
