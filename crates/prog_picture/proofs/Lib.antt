mod Bare
mod Texts
