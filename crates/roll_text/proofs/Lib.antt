pub mod Digits
mod Examples
pub mod Headed
pub mod Joined
pub mod KnownTexts
pub mod LineTexts
pub mod Lists
pub mod Spelled
pub mod Unreadable
