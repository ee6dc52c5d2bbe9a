-- Who gives a state, and what it answers to those who ask for pieces of it.
use Rattle.std.specs.Prelude.{ℕ, List, Bool, ◌||◌, nat_lt, Option, Some, None, option_and_then, option_map, slice_get, Result, Ok, Err, if◌then◌else◌}
use Rattle.roll_contact.specs.declared.key.Key.{Key}
use Rattle.roll_state.specs.Sealing.{opened, said_by}
use Rattle.roll_state.specs.Spelling.{Content, Gives, Message, Part, Wants, Wish}
use Rattle.roll_state.specs.States.{count_of, is_same, piece_of, unknown}
use Rattle.roll_state.specs.declared.name.StateName.{StateName}
use Rattle.roll_state.specs.declared.refusal.StateRefusal.{StateRefusal}
use Rattle.roll_state.specs.declared.refusal.StateRefusal.TheVariants.{OtherKind, OtherState}

pub record Giving : Type 0 where
  pub name : StateName
  pub bytes : List ℕ

-- its piece at a place
abbrev pub part_at : Giving → (place : ℕ) → Option Part
part_at giver place =
    if nat_lt place (count_of giver.name.length)
    then Some (record { state = giver.name; place = place; bytes = piece_of giver.bytes place })
    else None

-- whether an ask is for its state: by its name, or by which state it is alone
abbrev pub is_asked : Giving → StateName → Bool
is_asked giver state =
    is_same giver.name state || is_same (unknown giver.name.which giver.name.frame) state

-- what it answers to one of the places of an ask, counted from 0
abbrev pub answer : Giving → Wish → (index : ℕ) → Option Part
answer giver wish index =
    if is_asked giver wish.state then option_and_then (part_at giver) (slice_get wish.places index)
    else None

abbrev pub reply_to : Giving → Key → (sender index : ℕ) → Content
    → Result (Option (List ℕ)) StateRefusal
reply_to giver key sender index (Gives p) = Err OtherKind
reply_to giver key sender index (Wants w) =
    if is_asked giver w.state
    then Ok (option_map (λ p. said_by key sender (Gives p)) (answer giver w index))
    else Err OtherState

abbrev pub reply_read : Giving → Key → (sender index : ℕ) → Result Message StateRefusal
    → Result (Option (List ℕ)) StateRefusal
reply_read giver key sender index (Ok m) = reply_to giver key sender index m.content
reply_read giver key sender index (Err why) = Err why

-- the bytes that it sends for one of the places of an ask that came as bytes
abbrev pub reply : Giving → Key → (sender : ℕ) → List ℕ → (index : ℕ)
    → Result (Option (List ℕ)) StateRefusal
reply giver key sender bytes index = reply_read giver key sender index (opened key bytes)
