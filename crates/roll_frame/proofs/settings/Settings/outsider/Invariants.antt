use Rattle.std.proofs.Common.{◌≡◌}
use Rattle.roll_frame.specs.Settings.{is_local}
use Rattle.roll_frame.proofs.Searches.{rest}
use Rattle.roll_frame.proofs.settings.Settings.outsider.Given as goal

abbrev pub invariant-loop-place : goal.invariant-loop-place
invariant-loop-place l = rest (is_local l.fn.self) l.fn.self.players 8 ≡ rest (is_local l.fn.self) l.place 8
