-- The steps of one machine: it gives a word of its own, tells, hears, regards a machine as gone,
-- and lets players leave.
use Rattle.std.specs.Prelude.{ℕ, ◌+◌, max, min, List, length, map, Bool, true, false, not, ◌&&◌, ◌||◌, ◌==◌, nat_le, Option, Some, None, is_none, if◌then◌else◌, slice_index, slice_index_or, slice_set}
use Rattle.std.specs.Bool.{beq}
use Rattle.std.specs.List.{list_all, range_with_len}
use Rattle.std.specs.Option.{option_map_or}
use Rattle.roll_mesh.specs.declared.machine.Machine.{Machine}
use Rattle.roll_mesh.specs.declared.packet.Offer.{Offer}
use Rattle.roll_mesh.specs.declared.packet.Packet.{Packet}
use Rattle.roll_mesh.specs.declared.packet.View.{View}
use Rattle.roll_mesh.specs.declared.seat.Seat.{Seat}

-- a list with a value for each place of another
unfoldable pub at_places : {X Y : Type 0} → (ℕ → Y) → List X → List Y
at_places f xs = map f (range_with_len 0 (length xs))

-- whether a test holds at each place of a list
unfoldable pub at_all : {X : Type 0} → (ℕ → Bool) → List X → Bool
at_all test xs = list_all test (range_with_len 0 (length xs))

-- the machine that owns player p: none of them past the list
abbrev pub owner_of : Seat → ℕ → ℕ
owner_of seat p = slice_index_or seat.owners p seat.machines

abbrev pub is_in : List Bool → ℕ → Bool
is_in gone m = slice_index_or gone m false

-- what machine m told last
abbrev pub told_by : Machine → ℕ → Option View
told_by machine m = slice_index_or machine.told m None

-- the number of words at which player p left
abbrev pub left_at : Machine → ℕ → Option ℕ
left_at machine p = slice_index_or machine.left p None

-- whether the owner of player p is among these
abbrev pub is_orphan : Seat → List Bool → ℕ → Bool
is_orphan seat gone p = is_in gone (owner_of seat p)

-- one more word of an own player
unfoldable pub give : Seat → ℕ → Machine → Machine
give seat p machine =
    if owner_of seat p == seat.me
    then record machine { has = slice_set machine.has p (slice_index machine.has p + 1) }
    else machine

-- machine m is regarded as gone; nobody regards itself so
unfoldable pub leave : Seat → ℕ → Machine → Machine
leave seat m machine =
    if m == seat.me then machine else record machine { gone = slice_set machine.gone m true }

abbrev pub none_offered : Offer
none_offered = record { first = 0; end = 0 }

-- how many words of player p the machine m said that it has
abbrev pub said_by : Machine → ℕ → ℕ → ℕ
said_by machine m p = option_map_or (λ view. slice_index view.has p) (told_by machine m) 0

-- the words of player p for machine m: those that it hasn't said that it has, of own players and of
-- players whose owner is gone, as many as there is room for
unfoldable pub offer_of : Seat → Machine → ℕ → List ℕ → ℕ → Offer
offer_of seat machine m room p =
    let first = min (said_by machine m p) (slice_index machine.has p) in
    if (owner_of seat p == seat.me) || is_orphan seat machine.gone p
    then record {
      first = first;
      end = min (first + slice_index room p) (slice_index machine.has p);
    }
    else none_offered

-- the packet for machine m
unfoldable pub tell : Seat → ℕ → List ℕ → Machine → Packet
tell seat m room machine = record {
  sender = seat.me;
  view = record { gone = machine.gone; has = machine.has };
  offers = at_places (offer_of seat machine m room) machine.has;
}

-- the machines that are regarded as gone after a packet: also those that its sender regards so,
-- unless this machine is one
unfoldable pub gone_after : Seat → Machine → Packet → List Bool
gone_after seat machine packet =
    if is_in packet.view.gone seat.me then machine.gone
    else at_places (λ m. is_in machine.gone m || is_in packet.view.gone m) machine.gone

-- whether the packet's words of player p are taken: the sender's own, and of those whose owner both
-- regard as gone
unfoldable pub is_believed : Seat → List Bool → Packet → ℕ → Bool
is_believed seat gone packet p =
    (owner_of seat p == packet.sender)
    || (is_orphan seat gone p && is_orphan seat packet.view.gone p)

-- the words that are offered of player p
abbrev pub offer_at : Packet → ℕ → Offer
offer_at packet p = slice_index_or packet.offers p none_offered

-- of an offer, the words before a frame
abbrev pub trimmed_offer : ℕ → Offer → Offer
trimmed_offer most offer = record offer { end = min offer.end most }

-- a packet with each player's words before a frame alone: what is heard by a machine that has no
-- room for more
unfoldable pub trimmed : List ℕ → Packet → Packet
trimmed most packet = record packet {
  offers = at_places (λ p. trimmed_offer (slice_index most p) (offer_at packet p)) packet.offers;
}

-- an offer, and nothing if it has no words
abbrev pub kept_offer : Offer → Offer
kept_offer offer = if offer.first == offer.end then none_offered else offer

-- the packet without its offers of no words
abbrev pub shortened : Packet → Packet
shortened packet = record packet { offers = map kept_offer packet.offers }

-- how many words of player p there are after a packet: the next ones alone are taken, and none of
-- who has left
unfoldable pub has_after : Seat → List Bool → Machine → Packet → ℕ → ℕ
has_after seat gone machine packet p =
    let has = slice_index machine.has p in
    if is_none (left_at machine p) && is_believed seat gone packet p
    && nat_le (offer_at packet p).first has
    then max has (offer_at packet p).end
    else has

-- whether all of these machines are among others, and whether there are as many words of each
-- player, or more
unfoldable pub keeps : List Bool → List Bool → Bool
keeps old new = at_all (λ m. not (is_in old m) || is_in new m) old

unfoldable pub reaches : List ℕ → List ℕ → Bool
reaches old new = at_all (λ p. nat_le (slice_index old p) (slice_index new p)) old

-- whether a view says all that another says: both parts of what a machine tells only grow
abbrev pub covers : View → View → Bool
covers old new = keeps old.gone new.gone && reaches old.has new.has

-- an older view tells nothing new
abbrev pub is_news : Machine → Packet → Bool
is_news machine packet =
    option_map_or (λ old. covers old packet.view) (told_by machine packet.sender) true

-- whether the packet is listened to: not one's own, nor one of who is gone
abbrev pub is_fenced : Seat → Machine → ℕ → Bool
is_fenced seat machine sender = (sender == seat.me) || is_in machine.gone sender

unfoldable pub told_after : Machine → Packet → List (Option View)
told_after machine packet =
    if is_news machine packet
    then slice_set machine.told packet.sender (Some packet.view)
    else machine.told

-- the machine after a packet that it listens to
unfoldable pub taken : Seat → Packet → Machine → Machine
taken seat packet machine =
    let gone = gone_after seat machine packet in
    record {
      has = at_places (has_after seat gone machine packet) machine.has;
      gone = gone;
      told = told_after machine packet;
      left = machine.left;
    }

abbrev pub hear : Seat → Packet → Machine → Machine
hear seat packet machine =
    if is_fenced seat machine packet.sender then machine else taken seat packet machine

-- whether these are the same machines
unfoldable pub same_gone : List Bool → List Bool → Bool
same_gone ours theirs = at_all (λ m. beq (is_in ours m) (is_in theirs m)) ours

-- whether there are as many words of each player whose owner is gone
unfoldable pub same_counts : Seat → Machine → List ℕ → Bool
same_counts seat machine theirs =
    at_all (λ p. not (is_orphan seat machine.gone p)
    || (slice_index machine.has p == slice_index theirs p)) machine.left

-- whether a view tells just what this machine has to tell
abbrev pub is_same : Seat → Machine → View → Bool
is_same seat machine view = same_gone machine.gone view.gone && same_counts seat machine view.has

-- whether machine m doesn't stand in the way of who leaves
abbrev pub agrees : Seat → Machine → ℕ → Bool
agrees seat machine m =
    is_fenced seat machine m || option_map_or (is_same seat machine) (told_by machine m) false

-- whether the players of who is gone may leave: each machine that isn't gone told just what this
-- one has to tell
unfoldable pub may_leave : Seat → Machine → Bool
may_leave seat machine = list_all (agrees seat machine) (range_with_len 0 seat.machines)

-- the number of words at which player p has left once those who may have left
unfoldable pub left_after : Seat → Machine → ℕ → Option ℕ
left_after seat machine p =
    if is_none (left_at machine p) && is_orphan seat machine.gone p
    then Some (slice_index machine.has p)
    else left_at machine p

-- the players of who is gone leave, if they may
unfoldable pub left : Seat → Machine → Machine
left seat machine =
    if may_leave seat machine
    then record machine { left = at_places (left_after seat machine) machine.left }
    else machine
