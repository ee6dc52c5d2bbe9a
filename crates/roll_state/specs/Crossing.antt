-- From the bytes that givers send to those that a taker has, whatever the network does with them.
use Rattle.std.specs.Prelude.{◌≡◌, ◌⊎◌, ◌<◌, ◌≤◌, ◌+◌, ◌/◌, ℕ, List, [], ◌∷◌, length, Bool, true, false, All, ⊤, Option, Some, None, IsOk, Ok, slice_get, slice_index, slice_index_or}
use Rattle.sha2.specs.Sha256.{sha256}
use Rattle.roll_contact.specs.declared.key.Key.{Key}
use Rattle.roll_mesh.specs.declared.limits.TheConstants.{MACHINE_LIMIT}
use Rattle.roll_wire.specs.Spelling.{IsEnvelope}
use Rattle.roll_wire.specs.declared.datagram.Envelope.{Envelope}
use Rattle.roll_state.specs.Giving.{reply, Giving}
use Rattle.roll_state.specs.Sealing.{opened, said_by}
use Rattle.roll_state.specs.Spelling.{Gives, IsName, Part, Wants, Wish}
use Rattle.roll_state.specs.States.{piece_of, IsNameOf}
use Rattle.roll_state.specs.Taking.{after_ask, after_received, asked, is_allowed, left_in, opened_taker, received, Taking}
use Rattle.roll_state.specs.declared.limits.TheConstants.{ASK_LIMIT, PIECE_LIMIT}
use Rattle.roll_state.specs.declared.name.StateName.{StateName}

-- ---- what comes of a giver

-- bytes that a giver sent for a place of some ask, in its name and for who has the key; if its state has this name, it is this one
pub record IsOfGiver (state : List ℕ) (name : StateName) (key : Key) (bytes : List ℕ) : Type 0 where
  pub giver : Giving
  pub named : IsNameOf giver.name giver.bytes
  pub fits : IsName giver.name
  pub one : giver.name ≡ name → giver.bytes ≡ state
  pub sender : ℕ
  pub from : IsEnvelope (record { match_number = key.number; sender = sender })
  pub asked : List ℕ
  pub index : ℕ
  pub sent : reply giver key sender asked index ≡ Ok (Some bytes)

-- ---- what a taker does

-- it hears bytes, whoever sent them: but a piece that names an honest machine as its sender comes of a giver, sent at some time,
-- and perhaps it came before
pub record HearsBytes (honest : ℕ → Bool) (state : List ℕ) (old new : Taking) : Type 0 where
  pub key : Key
  pub bytes : List ℕ
  pub of_giver : (e : Envelope) (p : Part)
      → opened key bytes ≡ Ok (record { envelope = e; content = Gives p })
      → honest e.sender ≡ true → IsOfGiver state old.name key bytes
  pub heard : new ≡ after_received old key bytes

-- it asks for so many pieces at most
pub record Asks (old new : Taking) : Type 0 where
  pub most : ℕ
  pub asked : new ≡ after_ask old most

-- it takes pieces of one machine alone, or of all
pub record Chooses (old new : Taking) : Type 0 where
  pub host : Option ℕ
  pub chosen : new ≡ record old { only = host }

abbrev pub IsCall : (honest : ℕ → Bool) (state : List ℕ) → (old new : Taking) → Type 0
IsCall honest state old new = HearsBytes honest state old new ⊎ (Asks old new ⊎ Chooses old new)

-- call after call
abbrev pub AreCalls : (honest : ℕ → Bool) (state : List ℕ) → Taking → List Taking → Type 0
AreCalls honest state old [] = ⊤
AreCalls honest state old (new ∷ later) =
    IsCall honest state old new × AreCalls honest state new later

-- ---- the law

-- what a taker has of a state, of which some machines are honest givers
pub record HoldsOf (honest : ℕ → Bool) (state : List ℕ) (t : Taking) : Type 0 where
  -- each byte is missing, or came of a machine that isn't honest, or is the state's
  pub bytes : (i host : ℕ) → i < length state
      → slice_index_or t.held.from (i / PIECE_LIMIT) None ≡ Some host → honest host ≡ true
      → slice_index t.held.bytes i ≡ slice_index state i
  -- no honest machine is taken for one that gave a wrong state
  pub trusted : (host : ℕ) → honest host ≡ true → slice_index_or t.barred host false ≡ false
  -- what is whole has the state's length and digest, whoever gave it
  pub digest : left_in t.held ≡ 0
      → (length t.held.bytes ≡ length state) × (sha256 t.held.bytes ≡ sha256 state)
  -- and it is the state, if all are honest
  pub whole : ((host : ℕ) → honest host ≡ true) → left_in t.held ≡ 0 → t.held.bytes ≡ state

-- whichever bytes come to a taker, in whichever order and however often, it has of what honest machines gave the state's own bytes;
-- and it hears each piece that a giver of its state sends it, unless it takes none of that machine for now
pub record TakersHoldWhatWasGiven : Type 0 where
  pub holds : (honest : ℕ → Bool) (state : List ℕ) (name : StateName) (later : List Taking)
      → IsNameOf name state → AreCalls honest state (opened_taker name) later
      → All (HoldsOf honest state) later
  pub heard : (state : List ℕ) (t : Taking) (key : Key) (bytes : List ℕ)
      (g : IsOfGiver state t.name key bytes) → g.giver.name ≡ t.name → g.sender < MACHINE_LIMIT
      → slice_index_or t.barred g.sender false ≡ false → is_allowed t.only g.sender ≡ true
      → IsOk (received t key bytes)

-- what a giver sends is a piece of its state that an ask with the same key names, once for each time that it names it, 16 times at
-- most in all, and has no more than 66 bytes beside the piece's own
pub record IsAnswer (giver : Giving) (key : Key) (sender : ℕ) (asked : List ℕ) (index : ℕ)
    (bytes : List ℕ) : Type 0 where
  pub envelope : Envelope
  pub wish : Wish
  pub place : ℕ
  pub read : opened key asked ≡ Ok (record { envelope = envelope; content = Wants wish })
  pub named : slice_get wish.places index ≡ Some place
  pub bytes_are : bytes
      ≡ said_by key sender (Gives (record { state = giver.name; place = place; bytes = piece_of giver.bytes place }))
  pub few : index < ASK_LIMIT
  pub short : length bytes ≤ 66 + length (piece_of giver.bytes place)

abbrev pub GiversSendWhatIsAsked : Type 0
GiversSendWhatIsAsked = (giver : Giving) (key : Key) (sender : ℕ) (asked : List ℕ) (index : ℕ)
    (bytes : List ℕ) → length giver.name.digest ≡ 32
    → reply giver key sender asked index ≡ Ok (Some bytes)
    → IsAnswer giver key sender asked index bytes

-- a taker asks for pieces that are missing, and for some as long as some are
pub record TakersAskForWhatIsMissing : Type 0 where
  pub missing : (t : Taking) (most : ℕ)
      → All (λ place. (place < length t.held.from) × (slice_index_or t.held.from place None ≡ None))
      (asked t most)
  pub some : (t : Taking) (most : ℕ) → 1 ≤ most → 1 ≤ left_in t.held → 1 ≤ length (asked t most)
  pub few : (t : Taking) (most : ℕ)
      → (length (asked t most) ≤ most) × (length (asked t most) ≤ ASK_LIMIT)
