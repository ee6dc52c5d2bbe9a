-- What a roll needs.
use Rattle.std.specs.Prelude.{◌≡◌, ◌<◌, ℕ, Bool, List, length}
use Rattle.roll_frame.specs.Core.{cost}
use Rattle.roll_frame.specs.declared.refusal.Refusal.TheVariants.{NoMemory}
use Rattle.roll_session.specs.Calls.{IsAllowed, IsRollTo}
use Rattle.roll_session.specs.Gameless.{still, Bare}
use Rattle.roll_session.specs.Seen.{Seen}
use Rattle.roll_session.specs.declared.event.Call.{Call}
use Rattle.roll_tree.specs.SavedStates.{Saved}
use Rattle.slab.specs.Slab.{Slab}
use Rattle.roll_requests.specs.Slotted.{free_slots, is_needed, is_taken, least_free, AreFree, AreWithin, Guessed}
use Rattle.roll_requests.specs.declared.declined.Declined.{Declined}
use Rattle.roll_requests.specs.declared.declined.Declined.TheVariants.{Refused, NoSlots}

-- which slots are held, and those of a roll's states
pub record Room : Type 0 where
  pub held : List Bool
  pub slots : List ℕ

-- the slots of the saved states and of the jobs are held, and no others; those of a roll's states are the first free ones
pub record IsRoom (limit : ℕ) (states : List (Saved ℕ)) (jobs : Slab Guessed) (room : Room) : Type 0 where
  pub held : (slot : ℕ) → is_taken room.held slot ≡ is_needed states jobs slot
  pub least : room.slots ≡ least_free (is_needed states jobs) limit (length room.slots)
  pub free : AreFree limit room.held room.slots
  pub within : AreWithin room.held room.slots

-- nothing of a session is changed, but that more is reserved and the tree was told more of the timeline
pub record IsHardly (old new : Bare ℕ) : Type 0 where
  pub seen : new.seen ≡ record old.seen { reserved = new.seen.reserved }
  pub saves : new.saves ≡ record old.saves { tree = record old.saves.tree { time = new.saves.tree.time } }

-- memory ran out, or fewer slots are free than are needed
abbrev pub IsShort : (free needed : ℕ) → Declined → Type 0
IsShort free needed (Refused why) = why ≡ NoMemory
IsShort free needed NoSlots = free < needed

-- the rules accept a call, and its roll runs more frames than there are slots below the limit that nothing holds
pub record LacksSlots (seen : Seen) (states : List (Saved ℕ)) (jobs : Slab Guessed) (limit : ℕ) (call : Call) : Type 0 where
  pub to : ℕ
  pub is_to : IsRollTo seen.core call to
  pub allowed : IsAllowed still seen call
  pub few : length (free_slots (is_needed states jobs) limit) < cost seen.core to
