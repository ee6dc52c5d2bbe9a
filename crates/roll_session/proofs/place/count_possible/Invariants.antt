use Rattle.std.proofs.Common.{◌≡◌, ◌+◌, drop}
use Rattle.roll_laws.specs.Grafted.{possible_rows}
use Rattle.roll_session.proofs.place.count_possible.Given as goal

abbrev pub invariant-loop-place : goal.invariant-loop-place
invariant-loop-place g l = possible_rows l.base l.saves.inputs.players l.rows ≡ l.place + possible_rows (l.base + l.place) l.saves.inputs.players (drop l.place l.rows)
