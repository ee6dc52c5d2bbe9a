-- A state's datagrams as they are on the network: sealed as all datagrams of a match are.
use Rattle.std.specs.Prelude.{◌≡◌, ℕ, List, length, ◌||◌, ◌==◌, nat_lt, slice_index, Option, Some, None, Result, Ok, Err, if◌then◌else◌}
use Rattle.roll_contact.specs.Seals.{sealed, unsealed}
use Rattle.roll_contact.specs.declared.key.Key.{Key}
use Rattle.roll_wire.specs.declared.fault.WireFault.{WireFault}
use Rattle.roll_state.specs.Reading.{all_of}
use Rattle.roll_state.specs.Spelling.{spelling, Content, Message}
use Rattle.roll_state.specs.declared.limits.TheConstants.{ASK, PIECE}
use Rattle.roll_state.specs.declared.refusal.StateRefusal.{StateRefusal}
use Rattle.roll_state.specs.declared.refusal.StateRefusal.TheVariants.{NotSealed, NoDatagram}
use Rattle.roll_state.specs.declared.sealing.TheConstants.{HEADER, KIND_AT, SENDER_AT}

-- what a sender says to who has the key
abbrev pub message_by : Key → (sender : ℕ) → Content → Message
message_by key sender what = record {
  envelope = record { match_number = key.number; sender = sender };
  content = what;
}

-- the bytes by which it says so
unfoldable pub said_by : Key → (sender : ℕ) → Content → List ℕ
said_by key sender what = sealed key (spelling (message_by key sender what))

-- who sent bytes, if by their kind they are a piece or an ask
abbrev pub sender_of : List ℕ → Option ℕ
sender_of bytes =
    if nat_lt (length bytes) HEADER then None
    else (if (slice_index bytes KIND_AT == PIECE) || (slice_index bytes KIND_AT == ASK)
    then Some (slice_index bytes SENDER_AT) else None)

abbrev pub read : Result Message WireFault → Result Message StateRefusal
read (Ok what) = Ok what
read (Err fault) = Err (NoDatagram fault)

abbrev pub read_sealed : Option (List ℕ) → Result Message StateRefusal
read_sealed None = Err NotSealed
read_sealed (Some text) = read (all_of text)

-- what bytes say that were sealed by a key
unfoldable pub opened : Key → List ℕ → Result Message StateRefusal
opened key bytes = read_sealed (unsealed key bytes)

-- what a function returned, seen by view, is this
abbrev pub Opens : {X Y : Type 0} → (X → Y) → Result X StateRefusal → Result Y StateRefusal → Type 0
Opens view (Ok x) what = what ≡ Ok (view x)
Opens view (Err why) what = what ≡ Err why
