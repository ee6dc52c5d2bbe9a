-- What contracts over a game, a host or a match cite.
pub use Rattle.roll_frame.specs.Words
pub use Rattle.roll_frame.specs.declared.row.Cell
pub use Rattle.roll_game.specs.Counts
pub use Rattle.roll_host.specs.Hosted
pub use Rattle.roll_match.specs.GoingOut
pub use Rattle.roll_match.specs.Hearing
pub use Rattle.roll_match.specs.Opening
pub use Rattle.roll_match.specs.Telling
pub use Rattle.roll_match.specs.Turning
pub use Rattle.roll_pool.specs.Crews
pub use Rattle.roll_game.specs.declared.counts.Counts as GameCounts
