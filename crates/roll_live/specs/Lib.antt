pub mod Told
pub mod Tellings
pub mod Headlines
pub mod Lives
