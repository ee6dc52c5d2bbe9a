-- Laws over any steps of any match, from the start.
use Rattle.std.specs.Prelude.{◌≡◌, ℕ, ◌<◌, ◌≤◌, List, [], Bool, true, false, Option, Some, IsSome, slice_get, slice_index, slice_index_or, ◌⊎◌}
use Rattle.std.specs.List.{AllByRecursion}
use Rattle.roll_mesh.specs.declared.limits.TheConstants.{MACHINE_LIMIT, PLAYER_LIMIT}
use Rattle.roll_mesh.specs.declared.machine.Machine.{Machine}
use Rattle.roll_mesh.specs.declared.packet.Packet.{Packet}
use Rattle.roll_mesh.specs.declared.seat.Seat.{Seat}
use Rattle.roll_mesh.specs.Machines.{hear, is_in, left_at, owner_of, shortened}
use Rattle.roll_mesh.specs.Worlds.{Match, World, Step, Give, Leave, Tell, Hear, Left, seat_of, after, after_all, played}

-- no machine: it has nothing, and regards nobody as gone
abbrev pub no_machine : Machine
no_machine = record { has = []; gone = []; told = []; left = [] }

abbrev pub machine_at : World → ℕ → Machine
machine_at world i = slice_index_or world.machines i no_machine

-- how many words of player p machine i has
abbrev pub has_at : World → ℕ → ℕ → ℕ
has_at world i p = slice_index (machine_at world i).has p

-- whether machine i regards machine m as gone
abbrev pub is_gone : World → ℕ → ℕ → Bool
is_gone world i m = is_in (machine_at world i).gone m

-- the number of words at which player p left at machine i
abbrev pub left_of : World → ℕ → ℕ → Option ℕ
left_of world i p = left_at (machine_at world i) p

-- the owner of player p
abbrev pub owner_in : Match → ℕ → ℕ
owner_in match p = owner_of (seat_of match 0) p

-- if player p has left machine i, each machine that i doesn't regard as gone has just as many
-- words of p
abbrev pub WhoStaysHasAsMany : Type 0
WhoStaysHasAsMany =
    (match : Match) (steps : List Step) (i j p n : ℕ) → j < match.machines
    → left_of (played match steps) i p ≡ Some n
    → is_gone (played match steps) i j ≡ false → has_at (played match steps) j p ≡ n

-- two machines of which one doesn't regard the other as gone let a player leave at the same number
-- of words
abbrev pub TheyAgree : Type 0
TheyAgree =
    (match : Match) (steps : List Step) (i j p n m : ℕ) → left_of (played match steps) i p ≡ Some n
    → left_of (played match steps) j p ≡ Some m
    → (is_gone (played match steps) i j ≡ false) ⊎ (is_gone (played match steps) j i ≡ false)
    → n ≡ m

-- a packet that may be believed of player p: machine i doesn't regard its sender as gone, and the
-- sender has as many words as are taken; it owns the player, or regards the owner as gone
pub record IsBelieved (match : Match) (world later : World) (i p : ℕ) (packet : Packet)
    : Type 0 where
  pub listened : is_gone world i packet.sender ≡ false
  pub has : has_at later i p ≤ has_at world packet.sender p
  pub of_owner : (packet.sender ≡ owner_in match p)
      ⊎ (is_gone world packet.sender (owner_in match p) ≡ true)

-- machine i has more words of player p only by giving one of its own, or by hearing such a packet,
-- and then no more than it trimmed the packet to
abbrev pub NobodyIsBelievedBeyond : Type 0
NobodyIsBelievedBeyond =
    (match : Match) (steps : List Step) (step : Step) (i p : ℕ)
    → has_at (played match steps) i p < has_at (after match (played match steps) step) i p
    → ((step ≡ Give i p) × (owner_in match p ≡ i))
    ⊎ ((k : ℕ) × (most : List ℕ) × (packet : Packet) × (step ≡ Hear i k most)
    × (slice_get (played match steps).sent k ≡ Some packet)
    × (has_at (after match (played match steps) step) i p ≤ slice_index most p)
    × IsBelieved match (played match steps) (after match (played match steps) step) i p packet)

abbrev pub OwnersHaveMost : Type 0
OwnersHaveMost = (match : Match) (steps : List Step) (i p : ℕ)
    → has_at (played match steps) i p ≤ has_at (played match steps) (owner_in match p) p

-- who is gone stays gone, and who has left has left for ever, at that number of words
abbrev pub GoneStaysGone : Type 0
GoneStaysGone =
    (match : Match) (steps more : List Step) (i : ℕ)
    → ((m : ℕ) → is_gone (played match steps) i m ≡ true
    → is_gone (after_all match (played match steps) more) i m ≡ true)
    × ((p n : ℕ) → left_of (played match steps) i p ≡ Some n
    → left_of (after_all match (played match steps) more) i p ≡ Some n)

-- a step in which one of these machines tells, hears, or lets players leave
abbrev pub Talks : (ℕ → Bool) → Step → Type 0
Talks stay (Give i p) = ⊥
Talks stay (Leave i m) = ⊥
Talks stay (Tell i m room) = stay i ≡ true
Talks stay (Hear i k most) = stay i ≡ true
Talks stay (Left i) = stay i ≡ true

-- machines that stay: none of them regards another as gone, and each other machine is regarded as
-- gone by one of them
pub record Stay (match : Match) (world : World) (stay : ℕ → Bool) : Type 0 where
  pub together : (i j : ℕ) → stay i ≡ true → stay j ≡ true → is_gone world i j ≡ false
  pub others : (m : ℕ) → m < match.machines → stay m ≡ false → (i : ℕ) × (i < match.machines)
      × (stay i ≡ true) × (is_gone world i m ≡ true)

-- those who stay can get on, whatever came before: by telling, hearing and letting players leave
-- alone they come to a world in which each player of a machine that doesn't stay has left them all
abbrev pub TheyGetOn : Type 0
TheyGetOn =
    (match : Match) (steps : List Step) (stay : ℕ → Bool) → match.machines ≤ MACHINE_LIMIT
    → Stay match (played match steps) stay
    → (more : List Step) × AllByRecursion (Talks stay) more
    × ((i p : ℕ) → i < match.machines → stay i ≡ true → p < PLAYER_LIMIT
    → owner_in match p < match.machines → stay (owner_in match p) ≡ false
    → IsSome (left_of (after_all match (played match steps) more) i p))

-- a packet without its offers of no words is heard as the whole one
abbrev pub HearsTheSame : Type 0
HearsTheSame = (seat : Seat) (packet : Packet) (machine : Machine)
    → hear seat (shortened packet) machine ≡ hear seat packet machine
