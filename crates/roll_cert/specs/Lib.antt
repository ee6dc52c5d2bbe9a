pub mod Checked
pub mod Flaws
pub mod Texts
pub mod Reading
pub mod Laws
