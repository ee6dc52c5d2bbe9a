-- The words themselves: each machine holds the words that it has of each player, and each packet
-- comes with its words. Without the words this is a world of machines: a step is one of the
-- machine, and brings just as many words as the machine counts.
use Rattle.std.specs.Prelude.{◌≡◌, ℕ, ◌-◌, ◌<◌, List, [], ◌∷◌, ◌++◌, length, take, drop, map, ◌&&◌, ◌==◌, replicate, if◌then◌else◌, slice_get, slice_index, slice_index_or, slice_set}
use Rattle.std.specs.Option.{option_map_or}
use Rattle.roll_mesh.specs.declared.limits.TheConstants.{PLAYER_LIMIT}
use Rattle.roll_mesh.specs.declared.machine.Machine.{Machine}
use Rattle.roll_mesh.specs.declared.packet.Offer.{Offer}
use Rattle.roll_mesh.specs.declared.packet.Packet.{Packet}
use Rattle.roll_mesh.specs.declared.seat.Seat.{Seat}
use Rattle.roll_mesh.specs.Laws.{no_machine, has_at, owner_in}
use Rattle.roll_mesh.specs.Machines.{at_places, owner_of, offer_at, give, leave, tell, trimmed, hear, left}
use Rattle.roll_mesh.specs.Worlds.{Match, World, Step, Give, Leave, Tell, Hear, Left, seat_of, first_machine, played}

-- a machine, and the words that it has of each player, player 0 first
pub record Holder : Type 0 where
  pub mesh : Machine
  pub words : List (List ℕ)

-- a packet, and its words of each player, player 0 first
pub record Parcel : Type 0 where
  pub packet : Packet
  pub words : List (List ℕ)

-- the words of player p
abbrev pub words_of : List (List ℕ) → ℕ → List ℕ
words_of words p = slice_index_or words p []

-- ---- the steps of one machine

-- one more word of an own player
unfoldable pub give_word : Seat → ℕ → ℕ → Holder → Holder
give_word seat p w holder = record {
  mesh = give seat p holder.mesh;
  words = if owner_of seat p == seat.me
      then slice_set holder.words p (words_of holder.words p ++ w ∷ []) else holder.words;
}

-- of a player's words, those of an offer
abbrev pub offered_words : Offer → List ℕ → List ℕ
offered_words offer words = take (offer.end - offer.first) (drop offer.first words)

-- the packet for machine m, with its words
unfoldable pub tell_words : Seat → ℕ → List ℕ → Holder → Parcel
tell_words seat m room holder =
    let packet = tell seat m room holder.mesh in
    record {
      packet = packet;
      words = at_places (λ p. offered_words (offer_at packet p) (words_of holder.words p))
          holder.mesh.has;
    }

-- a player's words, of which there were some, once there are so many: those that were offered, from
-- a first frame on, are joined where the others end
abbrev pub joined_words : ℕ → ℕ → ℕ → List ℕ → List ℕ → List ℕ
joined_words first has has_then offered words =
    words ++ drop (has - first) (take (has_then - first) offered)

-- a machine hears a packet with each player's words before a frame alone
unfoldable pub hear_words : Seat → List ℕ → Parcel → Holder → Holder
hear_words seat most parcel holder =
    let mesh = hear seat (trimmed most parcel.packet) holder.mesh in
    record {
      mesh = mesh;
      words = at_places (λ p. joined_words (offer_at parcel.packet p).first
          (slice_index holder.mesh.has p) (slice_index mesh.has p) (words_of parcel.words p)
          (words_of holder.words p)) holder.mesh.has;
    }

-- the machine changes, and no words do
abbrev pub with_machine : (Machine → Machine) → Holder → Holder
with_machine change holder = record holder { mesh = change holder.mesh }

-- ---- all of them

-- the parcels stand with the newest first
pub record WordWorld : Type 0 where
  pub holders : List Holder
  pub sent : List Parcel

-- a step of machine i, as `Step` has them: it gives a word of a player, regards a machine as gone,
-- tells a machine, hears a packet with each player's words before a frame alone, or lets those
-- leave who may
pub data WordStep : Type 0 where
  Gives : ℕ → ℕ → ℕ → WordStep
  Leaves : ℕ → ℕ → WordStep
  Tells : ℕ → ℕ → List ℕ → WordStep
  Hears : ℕ → ℕ → List ℕ → WordStep
  LetsLeave : ℕ → WordStep

abbrev pub first_holder : Holder
first_holder = record { mesh = first_machine; words = replicate PLAYER_LIMIT [] }

abbrev pub first_words : Match → WordWorld
first_words match = record { holders = replicate match.machines first_holder; sent = [] }

-- machine i changes
unfoldable pub words_changed : WordWorld → ℕ → (Holder → Holder) → WordWorld
words_changed world i change =
    option_map_or (λ holder. record world {
      holders = slice_set world.holders i (change holder);
    })
    (slice_get world.holders i) world

-- machine i tells machine m
unfoldable pub words_told : Match → WordWorld → ℕ → ℕ → List ℕ → WordWorld
words_told match world i m room =
    option_map_or (λ holder. record world {
      sent = tell_words (seat_of match i) m room holder ∷ world.sent;
    })
    (slice_get world.holders i) world

-- the whole after a step, after more of them, and after steps from the start
unfoldable pub words_after : Match → WordWorld → WordStep → WordWorld
words_after match world (Gives i p w) = words_changed world i (give_word (seat_of match i) p w)
words_after match world (Leaves i m) =
    words_changed world i (with_machine (leave (seat_of match i) m))
words_after match world (Tells i m room) = words_told match world i m room
words_after match world (Hears i k most) =
    option_map_or (λ parcel. words_changed world i (hear_words (seat_of match i) most parcel))
    (slice_get world.sent k) world
words_after match world (LetsLeave i) =
    words_changed world i (with_machine (left (seat_of match i)))

abbrev pub words_after_all : Match → WordWorld → List WordStep → WordWorld
words_after_all match world [] = world
words_after_all match world (step ∷ steps) =
    words_after_all match (words_after match world step) steps

abbrev pub words_played : Match → List WordStep → WordWorld
words_played match steps = words_after_all match (first_words match) steps

-- ---- what is left without the words

abbrev pub counted : WordStep → Step
counted (Gives i p w) = Give i p
counted (Leaves i m) = Leave i m
counted (Tells i m room) = Tell i m room
counted (Hears i k most) = Hear i k most
counted (LetsLeave i) = Left i

abbrev pub counts_of : WordWorld → World
counts_of world = record {
  machines = map (λ holder. holder.mesh) world.holders;
  sent = map (λ parcel. parcel.packet) world.sent;
}

-- ---- the laws

-- no machine, and no words
abbrev pub no_holder : Holder
no_holder = record { mesh = no_machine; words = [] }

abbrev pub holder_at : WordWorld → ℕ → Holder
holder_at world i = slice_index_or world.holders i no_holder

-- the words that machine i has of player p
abbrev pub words_at : WordWorld → ℕ → ℕ → List ℕ
words_at world i p = words_of (holder_at world i).words p

abbrev pub IsBeginning : List ℕ → List ℕ → Type 0
IsBeginning front whole = (rest : List ℕ) × (whole ≡ front ++ rest)

-- the words of player p that machine i gave, in order
abbrev pub given_in : WordStep → ℕ → ℕ → List ℕ
given_in (Gives j q w) i p = if (j == i) && (q == p) then w ∷ [] else []
given_in (Leaves j m) i p = []
given_in (Tells j m room) i p = []
given_in (Hears j k most) i p = []
given_in (LetsLeave j) i p = []

abbrev pub given_by : List WordStep → ℕ → ℕ → List ℕ
given_by [] i p = []
given_by (step ∷ steps) i p = given_in step i p ++ given_by steps i p

-- what each machine has of a player is a beginning of what the player's owner has
abbrev pub BeginsTheOwners : Type 0
BeginsTheOwners =
    (match : Match) (steps : List WordStep) (i p : ℕ)
    → IsBeginning (words_at (words_played match steps) i p)
    (words_at (words_played match steps) (owner_in match p) p)

-- what the owner of a player has is what it gave
abbrev pub OwnersHaveWhatTheyGave : Type 0
OwnersHaveWhatTheyGave =
    (match : Match) (steps : List WordStep) (p : ℕ) → p < PLAYER_LIMIT
    → owner_in match p < match.machines
    → words_at (words_played match steps) (owner_in match p) p
    ≡ given_by steps (owner_in match p) p

-- so it is a beginning of what the player's owner gave
abbrev pub TheyHaveWhatWasGiven : Type 0
TheyHaveWhatWasGiven =
    (match : Match) (steps : List WordStep) (i p : ℕ)
    → IsBeginning (words_at (words_played match steps) i p) (given_by steps (owner_in match p) p)

-- without the words it is a world of machines
abbrev pub CountsArePlayed : Type 0
CountsArePlayed = (match : Match) (steps : List WordStep)
    → counts_of (words_played match steps) ≡ played match (map counted steps)

-- a machine has as many words as it counts
abbrev pub CountsAreLengths : Type 0
CountsAreLengths =
    (match : Match) (steps : List WordStep) (i p : ℕ)
    → has_at (played match (map counted steps)) i p
    ≡ length (words_at (words_played match steps) i p)
