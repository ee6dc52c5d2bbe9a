pub mod Clocks
pub mod Terms
pub mod Keys
pub mod Contacts
pub mod Seals
pub mod Sealers
pub mod Windows
pub mod Laws
