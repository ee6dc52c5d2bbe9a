pub mod Habits
pub mod Guesses
pub mod Parts
pub mod PartGuesses
pub mod Players
