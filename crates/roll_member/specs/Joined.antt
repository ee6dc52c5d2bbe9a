-- A session in its seat of a match. Player p of the mesh, counted from 0, is player p + 1 of the session.
use Rattle.std.specs.Prelude.{◌≡◌, ℕ, zero, suc, ◌+◌, ◌-◌, ◌<◌, ◌≤◌, Bool, true, false, min, not, ◌==◌, ◌&&◌, ◌||◌, nat_lt, List, length, take, is_none, is_some, Option, Some, None, if◌then◌else◌, slice_index}
use Rattle.std.specs.Bool.{beq}
use Rattle.std.specs.List.{list_all, range_with_len}
use Rattle.roll_frame.specs.Inputs.{of_player}
use Rattle.roll_mesh.specs.declared.limits.TheConstants.{INPUT_LIMIT, PLAYER_LIMIT}
use Rattle.roll_mesh.specs.Groups.{are_grouped, first_of, AreAlike, AreToldAlike}
use Rattle.roll_mesh.specs.Machines.{at_places, is_in, left_at, owner_of}
use Rattle.roll_mesh.specs.Words.{Holder}
use Rattle.roll_mesh.specs.declared.machine.Machine.{Machine}
use Rattle.roll_mesh.specs.declared.seat.Seat.{Seat}
use Rattle.roll_mesh.specs.Meshes.{is_seat, Seated}
use Rattle.roll_mesh.specs.Worlds.{first_machine}
use Rattle.roll_session.specs.Headline.{words_of}
use Rattle.roll_session.specs.Seen.{Seen}
use Rattle.roll_member.specs.declared.join.JoinRefusal.{JoinRefusal}
use Rattle.roll_member.specs.declared.join.JoinRefusal.TheVariants.{InvalidSeat, Players, Started}

pub record Joined : Type 0 where
  pub session : Seen
  pub mesh : Seated

-- the least of the counts at a place and at so many after it
abbrev pub fewest : (ℕ → ℕ) → (place more : ℕ) → ℕ
fewest count place zero = count place
fewest count place (suc more) = min (fewest count place more) (count (place + suc more))

abbrev pub count_of : Seen → ℕ → ℕ
count_of s p = length (words_of s (p + 1))

-- how many words of the player at a place the match may know: of its own player a machine tells a frame once it has all words of that
-- input, and of another's it has all words of a frame or none
abbrev pub known : Seen → Seat → ℕ → ℕ
known s seat p =
    if owner_of seat p == seat.me then fewest (count_of s) (first_of seat.words p) (seat.words - 1)
    else count_of s p

-- these are the numbers of words of the players that the match may know
abbrev pub AreCounts : Seen → Seat → List ℕ → Type 0
AreCounts s seat counts = (p : ℕ) → p < PLAYER_LIMIT → slice_index counts p ≡ known s seat p

-- whether the player at a place is one of the machine's own, or has left the session
abbrev pub is_local_at : Seen → ℕ → Bool
is_local_at s p = of_player (λ player. player.local) s.core.players (p + 1)

abbrev pub is_gone_at : Seen → ℕ → Bool
is_gone_at s p = of_player (λ player. player.gone) s.core.players (p + 1)

-- what holds between a session and its mesh, for the player at a place: the mesh has as many words as are confirmed, of an own player
-- as are of all words of its input; the local players are the machine's own, and there is a player if a machine owns it; who has
-- left the session has left the mesh, which has as many words as it left at, and isn't the machine's own
pub record IsTiedAt (s : Seen) (mesh : Seated) (p : ℕ) : Type 0 where
  pub count : slice_index mesh.machine.has p ≡ known s mesh.seat p
  pub there : nat_lt p (length s.core.players) ≡ nat_lt (owner_of mesh.seat p) mesh.seat.machines
  pub own : is_local_at s p ≡ (owner_of mesh.seat p == mesh.seat.me)
  pub gone : is_gone_at s p ≡ true → is_some (left_at mesh.machine p) ≡ true
  pub stays : (n : ℕ) → left_at mesh.machine p ≡ Some n → slice_index mesh.machine.has p ≡ n
  pub remote : is_some (left_at mesh.machine p) ≡ true → is_local_at s p ≡ false

-- what a mesh has alike of all words of an input: their counts, also those that others told, and at which they left; so who leaves
-- leaves with all its words at one frame
pub record IsWhole (mesh : Seated) : Type 0 where
  pub word : 1 ≤ mesh.seat.words
  pub few : mesh.seat.words ≤ INPUT_LIMIT
  pub grouped : are_grouped mesh.seat ≡ true
  pub counts : AreAlike mesh.seat.words (slice_index mesh.machine.has)
  pub views : AreToldAlike mesh.seat.words mesh.machine
  pub parts : AreAlike mesh.seat.words (left_at mesh.machine)
  pub places : length mesh.machine.left ≡ PLAYER_LIMIT

-- and of all players; and the machine isn't gone for itself
pub record IsTied (s : Seen) (mesh : Seated) : Type 0 where
  pub here : is_in mesh.machine.gone mesh.seat.me ≡ false
  pub sized : length mesh.machine.has ≡ PLAYER_LIMIT
  pub players : (p : ℕ) → p < PLAYER_LIMIT → IsTiedAt s mesh p
  pub whole : IsWhole mesh

-- whether the player at a place is local if the seat owns it, and there is one if a machine owns it
abbrev pub is_seated_at : Seen → Seat → ℕ → Bool
is_seated_at s seat p =
    beq (is_local_at s p) (owner_of seat p == seat.me)
    && beq (nat_lt p (length s.core.players)) (nat_lt (owner_of seat p) seat.machines)

-- whether nothing was heard of the player at a place
abbrev pub is_fresh_at : Seen → ℕ → Bool
is_fresh_at s p =
    (is_local_at s p || (length (words_of s (p + 1)) == 0)) && not (is_gone_at s p)

unfoldable pub are_seated : Seen → Seat → Bool
are_seated s seat = list_all (is_seated_at s seat) (range_with_len 0 PLAYER_LIMIT)

unfoldable pub are_fresh : Seen → Bool
are_fresh s = list_all (is_fresh_at s) (range_with_len 0 PLAYER_LIMIT)

-- why a session can't take its seat
abbrev pub join_refusal : Seen → Seat → Option JoinRefusal
join_refusal s seat =
    if not (is_seat seat) then Some InvalidSeat
    else (if not (are_seated s seat) then Some Players
    else (if not (are_fresh s) then Some Started else None))

-- a session that has just taken its seat: its mesh has the words of its own players, and was told nothing
pub record IsJoinedAs (s : Seen) (seat : Seat) (m : Joined) : Type 0 where
  pub session : m.session ≡ s
  pub mesh : m.mesh
      ≡ record { seat = seat; machine = record first_machine { has = m.mesh.machine.has } }
  pub counts : AreCounts s seat m.mesh.machine.has

-- whether words of the player at a place may come: it is another machine's, and hasn't left
abbrev pub is_awaited : Seat → Machine → ℕ → Bool
is_awaited seat machine p =
    nat_lt (owner_of seat p) seat.machines && not (owner_of seat p == seat.me) && is_none (left_at machine p)

-- the words of one of these are no more than so many: no frame after them can be settled
pub record IsBehind (m : Joined) (count : ℕ) : Type 0 where
  pub player : ℕ
  pub inside : player < PLAYER_LIMIT
  pub awaited : is_awaited m.mesh.seat m.mesh.machine player ≡ true
  pub few : count_of m.session player ≤ count

-- the words of a player that a mesh has
abbrev pub words_known : Joined → ℕ → List ℕ
words_known m p = take (slice_index m.mesh.machine.has p) (words_of m.session (p + 1))

-- what a member holds: what its mesh knows, and the words of each player that it has
abbrev pub held : Joined → Holder
held m = record {
  mesh = m.mesh.machine;
  words = at_places (words_known m) m.mesh.machine.has;
}
