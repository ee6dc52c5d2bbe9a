pub mod Changes
pub mod Courses
pub mod Folds
pub mod Offers
pub mod Ones
pub mod Rankings
pub mod Turns
