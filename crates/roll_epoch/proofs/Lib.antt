pub mod EndLaws
pub mod NextLaws
pub mod OwnerLaws
pub mod SeatLaws
