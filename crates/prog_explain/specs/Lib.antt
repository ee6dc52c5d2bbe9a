pub mod Refused
pub mod Noted
pub mod Pictured
