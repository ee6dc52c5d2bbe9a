-- Which rows of an epoch a machine knows, who has left, and which marks count.
use Rattle.std.specs.Prelude.{ℕ, zero, suc, ◌||◌, List, min, Bool, is_some, nat_le, Option, None, if◌then◌else◌, slice_index}
use Rattle.roll_mesh.specs.Machines.{is_in, left_at, owner_of}
use Rattle.roll_mesh.specs.Meshes.{Seated}
use Rattle.roll_mesh.specs.declared.limits.TheConstants.{PLAYER_LIMIT}
use Rattle.roll_peer.specs.Marks.{each_player, mark_at}
use Rattle.roll_peer.specs.Peered.{Peered}
use Rattle.roll_chain.specs.declared.rows.TheConstants.{ALL}
use Rattle.roll_wire.specs.declared.datagram.Marked.{Marked}

-- whether there is no player p in the match
abbrev pub is_nobody : Seated → ℕ → Bool
is_nobody mesh p = nat_le mesh.seat.machines (owner_of mesh.seat p)

-- at how many words each player of the match has left
abbrev pub left_in : Seated → ℕ → Option ℕ
left_in mesh p = if is_nobody mesh p then None else left_at mesh.machine p

abbrev pub lefts : Seated → List (Option ℕ)
lefts mesh = each_player (left_in mesh)

-- how many rows are known as far as player p goes: all, if it has left, or if there is none
abbrev pub rows_at : Seated → ℕ → ℕ
rows_at mesh p =
    if is_nobody mesh p || is_some (left_in mesh p) then ALL else slice_index mesh.machine.has p

-- how many are, as far as the first players go
unfoldable pub rows_until : Seated → ℕ → ℕ
rows_until mesh zero = ALL
rows_until mesh (suc p) = min (rows_until mesh p) (rows_at mesh p)

abbrev pub rows_known : Seated → ℕ
rows_known mesh = rows_until mesh PLAYER_LIMIT

-- the marks that count: those that are known of players of the match, and aren't void
abbrev pub counted_at : Peered → ℕ → Option Marked
counted_at peer p = if is_nobody peer.member.mesh p || is_in peer.voids p then None else mark_at peer.marks p

abbrev pub counted_marks : Peered → List (Option Marked)
counted_marks peer = each_player (counted_at peer)
