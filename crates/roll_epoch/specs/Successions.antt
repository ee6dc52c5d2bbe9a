-- What the next epoch is.
use Rattle.std.specs.Prelude.{ℕ, zero, suc, ◌+◌, ◌%◌, ◌^◌, ◌==◌, List, map, filter, Bool, false, ◌&&◌, ◌||◌, not, nat_lt, Option, Some, None, if◌then◌else◌, slice_get, slice_index, slice_index_or}
use Rattle.std.specs.List.{list_all, range_with_len}
use Rattle.roll_mesh.specs.Groups.{first_of}
use Rattle.roll_mesh.specs.declared.limits.TheConstants.{MACHINE_LIMIT, PLAYER_LIMIT}
use Rattle.roll_wire.specs.declared.datagram.Mark.{Mark}
use Rattle.roll_wire.specs.declared.datagram.Newcomer.{Newcomer}
use Rattle.roll_epoch.specs.Ends.{owner_of}
use Rattle.roll_epoch.specs.Ids.{next_id}
use Rattle.roll_epoch.specs.declared.limits.TheConstants.{FIRST_DELAY, FREE, NO_MACHINE}
use Rattle.roll_epoch.specs.declared.marks.Ending.{Ending}
use Rattle.roll_epoch.specs.declared.terms.Terms.{Terms}

-- a value for each player
unfoldable pub each_player : {A : Type 0} → (ℕ → A) → List A
each_player f = map f (range_with_len 0 PLAYER_LIMIT)

-- ---- who stays

-- whether a player left before the end
abbrev pub has_left_before : (end : ℕ) → Option ℕ → Bool
has_left_before end None = false
has_left_before end (Some at) = nat_lt at end

-- whether a player with this owner is another's than this machine's, or didn't leave before the end
abbrev pub is_no_loss : (end machine owner : ℕ) → Option ℕ → Bool
is_no_loss end machine owner left = not ((owner == machine) && has_left_before end left)

abbrev pub is_no_loss_at : List ℕ → List (Option ℕ) → (end machine : ℕ) → ℕ → Bool
is_no_loss_at owners left end machine p =
    is_no_loss end machine (owner_of owners p) (slice_index_or left p None)

-- whether no player of a machine left before the end
unfoldable pub stays : List ℕ → List (Option ℕ) → (end machine : ℕ) → Bool
stays owners left end machine =
    list_all (is_no_loss_at owners left end machine) (range_with_len 0 PLAYER_LIMIT)

-- who owns a player still: it is free, if its owner doesn't stay; a player that isn't there never is
abbrev pub kept_owner : List ℕ → List (Option ℕ) → (end : ℕ) → ℕ → ℕ
kept_owner owners left end p =
    if (owner_of owners p == NO_MACHINE) || stays owners left end (owner_of owners p) then owner_of owners p
    else FREE

abbrev pub kept_owners : List ℕ → List (Option ℕ) → (end : ℕ) → List ℕ
kept_owners owners left end = each_player (kept_owner owners left end)

-- ---- who comes

-- the lowest number of a machine that nobody has
abbrev pub is_free_seat : List ℕ → ℕ → Bool
is_free_seat owners machine = list_all (λ owner. not (owner == machine)) owners

abbrev pub free_seat : List ℕ → Option ℕ
free_seat owners = slice_get (filter (is_free_seat owners) (range_with_len 0 MACHINE_LIMIT)) 0

-- whether a player is an input's first one, where each input has so many words
abbrev pub is_first : (words : ℕ) → ℕ → Bool
is_first words p = first_of words p == p

-- the first player of the lowest input that is free
abbrev pub is_free_player : List ℕ → ℕ → Bool
is_free_player owners p = owner_of owners p == FREE

abbrev pub is_free_input : (words : ℕ) → List ℕ → ℕ → Bool
is_free_input words owners p = is_free_player owners p && is_first words p

abbrev pub free_input : (words : ℕ) → List ℕ → Option ℕ
free_input words owners = slice_get (filter (is_free_input words owners) (range_with_len 0 PLAYER_LIMIT)) 0

-- which input somebody gets who asks for one, by their first players: that one if it is free, else the lowest that is
abbrev pub place_for : (words : ℕ) → List ℕ → ℕ → Option ℕ
place_for words owners p = if is_free_player owners p then Some p else free_input words owners

-- who owns a player once an input was given to a machine: that one, if it is a word of this input; only what is free is given
abbrev pub owner_with : (seat words : ℕ) → List ℕ → (place : ℕ) → ℕ → ℕ
owner_with seat words owners place p =
    if is_free_player owners p && (first_of words p == place) then seat else owner_of owners p

abbrev pub given_at : (seat words : ℕ) → List ℕ → Option ℕ → List ℕ
given_at seat words owners None = owners
given_at seat words owners (Some place) = each_player (owner_with seat words owners place)

abbrev pub given : (seat words : ℕ) → List ℕ → ℕ → List ℕ
given seat words owners p = given_at seat words owners (place_for words owners p)

abbrev pub given_if : (is_asked : Bool) → (seat words : ℕ) → List ℕ → ℕ → List ℕ
given_if is_asked seat words owners p = if is_asked then given seat words owners p else owners

-- whether it asks for the input whose first player this is; of another word of an input nothing counts
abbrev pub is_asked_at : (words : ℕ) → (asked : List Bool) → ℕ → Bool
is_asked_at words asked p = slice_index_or asked p false && is_first words p

-- the owners once a machine was given an input for each that it asks for among the first players, in their order
abbrev pub given_to : (seat words : ℕ) → (asked : List Bool) → List ℕ → (players : ℕ) → List ℕ
given_to seat words asked owners zero = owners
given_to seat words asked owners (suc p) =
    given_if (is_asked_at words asked p) seat words (given_to seat words asked owners p) p

abbrev pub seated : Option ℕ → (words : ℕ) → List Bool → List ℕ → List ℕ
seated None words asked owners = owners
seated (Some seat) words asked owners = given_to seat words asked owners PLAYER_LIMIT

-- somebody comes, with the lowest number that nobody has who stays: nobody, if there is none
abbrev pub come : (words : ℕ) → Option Newcomer → List ℕ → List ℕ
come words None owners = owners
come words (Some n) owners = seated (free_seat owners) words n.players owners

unfoldable pub next_owners : Terms → Ending → List (Option ℕ) → List ℕ
next_owners terms e left = come terms.words e.mark.newcomer (kept_owners terms.owners left e.frame)

-- ---- the rest

-- whether a player has the owner that it had, who stayed: whoever comes may have the number of one who left
abbrev pub is_same_owner : Terms → (kept owners : List ℕ) → ℕ → Bool
is_same_owner terms kept owners p =
    (owner_of kept p == owner_of terms.owners p) && (owner_of owners p == owner_of terms.owners p)

-- a player's delay: the mark's, if it has one; else as before, if its owner is the same
abbrev pub delay_by : Option ℕ → (is_same : Bool) → (before : ℕ) → ℕ
delay_by None is_same before = if is_same then before else FIRST_DELAY
delay_by (Some delay) is_same before = delay

abbrev pub next_delay : Terms → Mark → (kept owners : List ℕ) → ℕ → ℕ
next_delay terms mark kept owners p =
    delay_by (slice_index_or mark.delays p None) (is_same_owner terms kept owners p)
    (slice_index terms.delays p)

abbrev pub next_delays : Terms → Mark → (kept owners : List ℕ) → List ℕ
next_delays terms mark kept owners = each_player (next_delay terms mark kept owners)

abbrev pub next_threshold : Terms → Mark → ℕ
next_threshold terms mark = if mark.threshold == 0 then terms.threshold else mark.threshold

-- the epoch after one that ends so, whose players left at these numbers of words
unfoldable pub successor : Terms → Ending → List (Option ℕ) → Terms
successor terms e left =
    let owners = next_owners terms e left in
    record {
      id = next_id terms.id e left;
      base = (terms.base + e.frame) % 2 ^ 64;
      owners = owners;
      delays = next_delays terms e.mark (kept_owners terms.owners left e.frame) owners;
      threshold = next_threshold terms e.mark;
      words = terms.words;
    }
