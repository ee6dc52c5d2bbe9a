-- Who holds up a match: by the counts of words alone.
use Rattle.std.specs.Prelude.{◌≡◌, ◌≤◌, ◌<◌, ℕ, zero, suc, ◌+◌, max, min, List, Bool, true, not, ◌&&◌, ◌||◌, ◌==◌, nat_le, nat_lt, Option, Some, None, is_none, is_some, if◌then◌else◌, slice_index}
use Rattle.std.specs.List.{list_all, range_with_len}
use Rattle.std.specs.Option.{option_map_or}
use Rattle.roll_mesh.specs.declared.holding_up.TheConstants.{DELAY_ROOM}
use Rattle.roll_mesh.specs.declared.limits.TheConstants.{PLAYER_LIMIT}
use Rattle.roll_mesh.specs.declared.machine.Machine.{Machine}
use Rattle.roll_mesh.specs.declared.packet.View.{View}
use Rattle.roll_mesh.specs.declared.seat.Seat.{Seat}
use Rattle.roll_mesh.specs.Machines.{is_fenced, left_at, owner_of, told_by}

-- the most words that there are of a machine's players, of the first so many
unfoldable pub most_of : Seat → List ℕ → ℕ → ℕ → ℕ
most_of seat has m zero = 0
most_of seat has m (suc p) =
    if owner_of seat p == m then max (slice_index has p) (most_of seat has m p)
    else most_of seat has m p

abbrev pub least_some : ℕ → Option ℕ → ℕ
least_some n None = n
least_some n (Some other) = min n other

-- the fewest that a machine has of another's players who haven't left, of the first so many
unfoldable pub fewest_of : Seat → Machine → ℕ → ℕ → Option ℕ
fewest_of seat here m zero = None
fewest_of seat here m (suc p) =
    if (owner_of seat p == m) && is_none (left_at here p)
    then Some (least_some (slice_index here.has p) (fewest_of seat here m p))
    else fewest_of seat here m p

-- the number of words of a machine's player that this one waits for: it has given all that it may without more
abbrev pub awaited_of : ℕ → ℕ → Option ℕ → Option ℕ
awaited_of own threshold None = None
awaited_of own threshold (Some fewest) =
    if nat_le (fewest + threshold) own then Some fewest else None

abbrev pub awaited : Seat → Machine → ℕ → ℕ → Option ℕ
awaited seat here threshold m =
    awaited_of (most_of seat here.has seat.me PLAYER_LIMIT) threshold
    (fewest_of seat here m PLAYER_LIMIT)

-- whether who has so many words of its own isn't kept from its next one by player p: that player's words don't end so far before, or
-- the player has left: then it told just what this machine tells, and needs no more words of that player
abbrev pub is_open_at : Machine → ℕ → ℕ → List ℕ → ℕ → Bool
is_open_at here threshold own has p =
    nat_lt own (slice_index has p + threshold) || is_some (left_at here p)

abbrev pub keeps_open : Seat → Machine → ℕ → ℕ → List ℕ → ℕ → Bool
keeps_open seat here threshold own has p =
    not (nat_lt (owner_of seat p) seat.machines) || is_open_at here threshold own has p

-- how many words of its own a machine has given, which told this: as many as it says that it has, and no more than came here
abbrev pub given_by : Seat → Machine → ℕ → View → ℕ
given_by seat here m view = min (most_of seat here.has m PLAYER_LIMIT) (most_of seat view.has m PLAYER_LIMIT)

-- whether a machine that told this could give its next word: no player of the match keeps it from that
unfoldable pub could_give : Seat → Machine → ℕ → ℕ → View → Bool
could_give seat here threshold m view =
    list_all (keeps_open seat here threshold (given_by seat here m view) view.has)
    (range_with_len 0 PLAYER_LIMIT)

abbrev pub held_up_by : Seat → Machine → ℕ → ℕ → Option View → Option ℕ
held_up_by seat here threshold m None = None
held_up_by seat here threshold m (Some view) =
    if could_give seat here threshold m view then awaited seat here threshold m else None

-- the number of words of a player that this machine waits for, if that player's machine holds up the match
unfoldable pub holds_up : Seat → Machine → ℕ → ℕ → Option ℕ
holds_up seat here threshold m =
    if is_fenced seat here m then None else held_up_by seat here threshold m (told_by here m)

-- of so many words of this machine's players how many one has that told this, if it lacks some
abbrev pub lacked_of : Seat → ℕ → Option View → Option ℕ
lacked_of seat own None = None
lacked_of seat own (Some view) =
    let theirs = most_of seat view.has seat.me PLAYER_LIMIT in
    if nat_lt theirs own then Some theirs else None

-- the number of words of this machine's players that another says that it has, if there are more
unfoldable pub lacks : Seat → Machine → ℕ → Option ℕ
lacks seat here m =
    if is_fenced seat here m then None
    else lacked_of seat (most_of seat here.has seat.me PLAYER_LIMIT) (told_by here m)

-- whether a machine that told this has more words than are here of a third one's player: it may know a mark that isn't known here
abbrev pub knows_more : Seat → Machine → ℕ → List ℕ → ℕ → Bool
knows_more seat here m has p =
    not (owner_of seat p == seat.me)
    && (not (owner_of seat p == m) && nat_lt (slice_index here.has p) (slice_index has p))

-- whether a player has left here, and who has so many words of its own hasn't gone on since: it may not know yet that all agree
abbrev pub is_leaving : Machine → ℕ → ℕ → List ℕ → ℕ → Bool
is_leaving here threshold own has p =
    is_some (left_at here p) && nat_le own (slice_index has p + threshold + DELAY_ROOM)

abbrev pub is_clear : Seat → Machine → ℕ → ℕ → ℕ → List ℕ → ℕ → Bool
is_clear seat here threshold m own has p =
    not (knows_more seat here m has p || is_leaving here threshold own has p)

unfoldable pub are_clear : Seat → Machine → ℕ → ℕ → View → Bool
are_clear seat here threshold m view =
    list_all (is_clear seat here threshold m (given_by seat here m view) view.has)
    (range_with_len 0 PLAYER_LIMIT)

-- whether nothing can keep a machine from going on that this one doesn't see
unfoldable pub is_free : Seat → Machine → ℕ → ℕ → Bool
is_free seat here threshold m =
    option_map_or (are_clear seat here threshold m) (told_by here m) true

-- a machine waits for a player of the match who hasn't left here, by what it told last: it has given all that it may, and that came here
pub record Waits (seat : Seat) (here : Machine) (threshold m : ℕ) (view : View) : Type 0 where
  pub player : ℕ
  pub is_player : player < PLAYER_LIMIT
  pub plays : nat_lt (owner_of seat player) seat.machines ≡ true
  pub stays : left_at here player ≡ None
  pub all_given : slice_index view.has player + threshold ≤ most_of seat view.has m PLAYER_LIMIT
  pub came : most_of seat view.has m PLAYER_LIMIT ≤ most_of seat here.has m PLAYER_LIMIT

-- who itself waits holds up nobody
abbrev pub WaitersHoldUpNobody : Type 0
WaitersHoldUpNobody = (seat : Seat) (here : Machine) (threshold m : ℕ) (view : View)
    → told_by here m ≡ Some view → Waits seat here threshold m view → holds_up seat here threshold m ≡ None
