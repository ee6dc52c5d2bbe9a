-- What a duel and its snapshots show.
use Rattle.std.specs.Prelude.{ℕ, List}
use Rattle.roll_duel.specs.declared.duel.Duel.{Duel}
use Rattle.roll_duel.specs.declared.state.Snapshot.{Snapshot}
use Rattle.roll_game.specs.declared.counts.Counts.{Counts}
use Rattle.roll_duel.specs.Frame.{Field}
use Rattle.roll_duel.specs.Bytes.{bytes_of}

-- the number of ships
abbrev pub ship_count : Duel → ℕ
ship_count duel = duel.ships

-- what it was asked for
abbrev pub call_counts : Duel → Counts
call_counts duel = duel.counts

abbrev pub field_in : Snapshot → Field
field_in snapshot = snapshot.state

abbrev pub snapshot_bytes : Snapshot → List ℕ
snapshot_bytes snapshot = bytes_of snapshot.state
