-- What a play may speak of.
use Rattle.std.specs.Prelude.{ℕ, List, Bool, not, ◌&&◌, ◌||◌, ◌==◌, nat_lt, nat_le, slice_index}
use Rattle.std.specs.List.{list_all, range_with_len}
use Rattle.roll_mesh.specs.Groups.{is_even}
use Rattle.roll_mesh.specs.Machines.{is_in, offer_at}
use Rattle.roll_mesh.specs.declared.limits.TheConstants.{MACHINE_LIMIT, PLAYER_LIMIT}
use Rattle.roll_mesh.specs.declared.packet.Packet.{Packet}
use Rattle.roll_mesh.specs.declared.seat.Seat.{Seat}

-- a machine that is called gone is of the match
abbrev pub is_its_machine : Seat → Packet → ℕ → Bool
is_its_machine seat packet m = not (is_in packet.view.gone m) || nat_lt m seat.machines

unfoldable pub are_its_machines : Seat → Packet → Bool
are_its_machines seat packet =
    list_all (is_its_machine seat packet) (range_with_len 0 MACHINE_LIMIT)

-- whether machines of the match own a player
abbrev pub is_player_of : Seat → ℕ → Bool
is_player_of seat p = nat_lt (slice_index seat.owners p) seat.machines

-- whether nothing is said of a player: no count, and no words
abbrev pub is_unnamed : Packet → ℕ → Bool
is_unnamed packet p = (slice_index packet.view.has p == 0) && ((offer_at packet p).end == 0)

abbrev pub is_its_player : Seat → Packet → ℕ → Bool
is_its_player seat packet p = is_unnamed packet p || is_player_of seat p

unfoldable pub are_its_players : Seat → Packet → Bool
are_its_players seat packet =
    list_all (is_its_player seat packet) (range_with_len 0 PLAYER_LIMIT)

-- whether a packet speaks of machines and players of the match alone, and has the same count and frames of all words of an input
abbrev pub is_inside : Seat → Packet → Bool
is_inside seat packet =
    are_its_machines seat packet && are_its_players seat packet && is_even seat packet

-- whether its sender says that it has no more words of a player of this machine's own than this machine has
abbrev pub is_no_more : Seat → List ℕ → Packet → ℕ → Bool
is_no_more seat has packet p =
    not (slice_index seat.owners p == seat.me)
    || nat_le (slice_index packet.view.has p) (slice_index has p)

unfoldable pub are_no_more : Seat → List ℕ → Packet → Bool
are_no_more seat has packet = list_all (is_no_more seat has packet) (range_with_len 0 PLAYER_LIMIT)
