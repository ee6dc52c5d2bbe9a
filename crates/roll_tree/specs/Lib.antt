pub mod Marks
pub mod SavedStates
pub mod Layout
pub mod Rule
pub mod Node
