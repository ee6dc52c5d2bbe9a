use Rattle.std.proofs.Common.{◌≡◌, drop}
use Rattle.roll_viewer.specs.Rows.{is_said_once}
use Rattle.roll_viewer.proofs.rows.is_said_once.Given as goal

abbrev pub invariant-loop-place : goal.invariant-loop-place
invariant-loop-place l = is_said_once (drop l.place l.offers) ≡ is_said_once l.offers
