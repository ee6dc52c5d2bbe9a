mod AsBox
mod Handing
mod Openings
mod Words
