-- Players in a row are the words of one input.
use Rattle.std.specs.Prelude.{◌≡◌, ℕ, ◌+◌, ◌*◌, ◌/◌, ◌<◌, ◌≤◌, ◌&&◌, ◌||◌, ◌==◌, nat_le, Bool, List, length, slice_index, Some}
use Rattle.std.specs.List.{list_all, range_with_len}
use Rattle.roll_mesh.specs.declared.limits.TheConstants.{PLAYER_LIMIT}
use Rattle.roll_mesh.specs.declared.machine.Machine.{Machine}
use Rattle.roll_mesh.specs.declared.packet.Packet.{Packet}
use Rattle.roll_mesh.specs.declared.packet.View.{View}
use Rattle.roll_mesh.specs.declared.seat.Seat.{Seat}
use Rattle.roll_mesh.specs.Machines.{offer_at, owner_of, told_by}

-- the first player of the input of which player p is a word, where each input has so many
unfoldable pub first_of : ℕ → ℕ → ℕ
first_of words p = p / words * words

-- the same at each word of an input
abbrev pub AreAlike : {X : Type 0} → ℕ → (ℕ → X) → Type 0
AreAlike words at = (p : ℕ) → p < PLAYER_LIMIT → at p ≡ at (first_of words p)

-- whether one machine owns the input of which a player is a word, and all its words, if there is such a player
abbrev pub is_grouped_at : Seat → ℕ → Bool
is_grouped_at seat p =
    (owner_of seat p == owner_of seat (first_of seat.words p))
    && (nat_le seat.machines (owner_of seat p)
    || nat_le (first_of seat.words p + seat.words) PLAYER_LIMIT)

unfoldable pub are_grouped : Seat → Bool
are_grouped seat = list_all (is_grouped_at seat) (range_with_len 0 PLAYER_LIMIT)

-- whether a packet has the same count and the same frames of a player as of the first word of the same input
abbrev pub is_even_at : Seat → Packet → ℕ → Bool
is_even_at seat packet p =
    (slice_index packet.view.has p == slice_index packet.view.has (first_of seat.words p))
    && ((offer_at packet p).first == (offer_at packet (first_of seat.words p)).first)
    && ((offer_at packet p).end == (offer_at packet (first_of seat.words p)).end)

unfoldable pub is_even : Seat → Packet → Bool
is_even seat packet = list_all (is_even_at seat packet) (range_with_len 0 PLAYER_LIMIT)

-- each machine told the same counts of all words of an input
abbrev pub AreToldAlike : ℕ → Machine → Type 0
AreToldAlike words machine = (m : ℕ) (view : View) → told_by machine m ≡ Some view
    → AreAlike words (slice_index view.has)

-- a machine has the same counts of all words of an input, and was told the same, and has as much room for one as for another
pub record AreEven (seat : Seat) (machine : Machine) (room : List ℕ) : Type 0 where
  pub counts : AreAlike seat.words (slice_index machine.has)
  pub views : AreToldAlike seat.words machine
  pub rooms : AreAlike seat.words (slice_index room)
  pub sized : PLAYER_LIMIT ≤ length machine.has
