pub mod Found
pub mod Texts
pub mod Areas
pub mod Fronts
pub mod Joining
pub mod Lanes
pub mod Sharing
pub mod OneText
