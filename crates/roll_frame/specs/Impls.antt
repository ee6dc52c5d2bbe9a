-- Lemmas that impls of traits cite, and no definitions.
pub mod Equal
pub mod Total
pub mod Ties
pub mod Repacking
