-- The rows that a play tells, and which of them a viewer takes in.
use Rattle.std.specs.Prelude.{◌≡◌, ◌⊎◌, ℕ, ◌+◌, ◌-◌, ◌≤◌, ◌==◌, nat_lt, not, ◌&&◌, ◌||◌, is_none, List, [], ◌∷◌, ◌++◌, length, map, max, min, take, drop, Bool, true, slice_get, if◌then◌else◌}
use Rattle.std.specs.List.{list_all, range_with_len}
use Rattle.std.specs.Option.{option_map_or}
use Rattle.roll_frame.specs.Cells.{Rows}
use Rattle.roll_frame.specs.declared.row.Cell.{Cell}
use Rattle.roll_frame.specs.declared.row.Cell.TheVariants.{Gone, Word}
use Rattle.roll_member.specs.Taking.{shares}
use Rattle.roll_mesh.specs.declared.packet.Offer.{Offer}
use Rattle.roll_wire.specs.Spelling.{Turn}
use Rattle.roll_viewer.specs.Queued.{IsFull, Queued}

-- the greatest number, or 0 where there is none
abbrev pub most_of : List ℕ → ℕ
most_of [] = 0
most_of (n ∷ ns) = max n (most_of ns)

-- the least of a number and others
abbrev pub least_with : ℕ → List ℕ → ℕ
least_with most [] = most
least_with most (n ∷ ns) = min n (least_with most ns)

-- whether words are offered; an offer of none is as if it weren't there
abbrev pub has_words : Offer → Bool
has_words offer = nat_lt offer.first offer.end

-- the frame of the first row that is told: the first offer that has words says it
abbrev pub first_of : List Offer → ℕ
first_of [] = 0
first_of (offer ∷ offers) = if has_words offer then offer.first else first_of offers

abbrev pub first_row : Turn → ℕ
first_row t = first_of t.head.offers

-- whether it is said once: the words of all others begin at the same row, and their offers say 0
abbrev pub follows : Offer → Bool
follows offer = not (has_words offer) || (offer.first == 0)

abbrev pub is_said_once : List Offer → Bool
is_said_once [] = true
is_said_once (offer ∷ offers) =
    if has_words offer then list_all follows offers else is_said_once offers

-- how many rows are told: as many as there are words of some player
abbrev pub row_count : List Offer → ℕ
row_count offers = most_of (map (λ offer. offer.end - offer.first) offers)

-- a player's cell in the row of an index: its word, and gone where it has none
abbrev pub cell_in : ℕ → List ℕ → Cell
cell_in index words = option_map_or (λ word. Word word) (slice_get words index) Gone

abbrev pub row_in : List Offer → List ℕ → ℕ → List Cell
row_in offers words index = map (cell_in index) (shares offers words)

-- the rows of so many players that a play tells
abbrev pub rows_in : ℕ → Turn → Rows
rows_in players t =
    map (row_in (take players t.head.offers) t.words)
    (range_with_len 0 (row_count (take players t.head.offers)))

-- whether a play tells nothing of who isn't in a match of so many players: no machine is gone, no state is settled, and of
-- further players there are neither words nor counts
abbrev pub is_inside : ℕ → Turn → Bool
is_inside players t =
    list_all not t.head.view.gone
    && (is_none t.head.settled
    && (list_all (λ offer. not (has_words offer)) (drop players t.head.offers)
    && list_all (λ count. count == 0) (drop players t.head.view.has)))

-- whether a play tells rows
abbrev pub are_rows : ℕ → Turn → Bool
are_rows players t = is_inside players t && is_said_once (take players t.head.offers)

-- the rows that a viewer lacks who has so many, of those that a play tells
abbrev pub news_in : ℕ → Turn → (had : ℕ) → Rows
news_in players t had = drop (had - first_row t) (rows_in players t)

-- so many of them are taken in: all, unless no further row has a place
pub record AreTaken (players : ℕ) (t : Turn) (old new : Queued) (count : ℕ) : Type 0 where
  pub waiting : new.waiting ≡ old.waiting ++ take count (news_in players t old.count)
  pub counted : new.count ≡ old.count + count
  pub few : count ≤ length (news_in players t old.count)
  pub all : (length (news_in players t old.count) ≤ count) ⊎ IsFull new
