-- A log as its callers see it, and what its fields keep.
use Rattle.std.specs.Prelude.{ℕ, ◌-◌, ◌<◌, ◌≤◌, List, All, length, map, min, vec_capacity, vec_len, slice_get}
use Rattle.std.specs.Option.{option_map_or}
use Rattle.roll_frame.specs.declared.entry.Entry.{Entry}
use Rattle.roll_frame.specs.declared.entry.Entry.TheVariants.{Local, Remote, Disconnect, Sync, Advance, Graft, Partial}
use Rattle.roll_session.specs.Calls.{entry_of}
use Rattle.roll_session.specs.declared.log.Log.TheInside.{Inside}
use Rattle.roll_session.specs.declared.log.Logged.{Logged}
use Rattle.roll_session.specs.declared.log.Logged.TheVariants.{Call as CallTold, Graft as GraftTold, Partial as PartialTold}
use Rattle.roll_session.specs.declared.log.Origin.{Origin}
use Rattle.roll_session.specs.declared.log.Slot.{Slot}
use Rattle.roll_session.specs.declared.log.Slot.TheVariants.{Local as LocalSlot, Remote as RemoteSlot, Disconnect as DisconnectSlot, Sync as SyncSlot, Advance as AdvanceSlot, Graft as GraftSlot, Partial as PartialSlot}

-- the entries, and how many more there is room for certain
pub record Filed : Type 0 where
  pub entries : List Entry
  pub room : ℕ

-- the entry that is told
abbrev pub logged_entry : Logged → Entry
logged_entry (CallTold call) = entry_of call
logged_entry (GraftTold ticket route) = Graft ticket route.now
logged_entry (PartialTold to made) = Partial to made

-- the entry of a slot beside these grafts. Sync stands for a graft that isn't there, of which no slot of a log is
abbrev pub entry_in : List Origin → Slot → Entry
entry_in grafts (LocalSlot player word) = Local player word
entry_in grafts (RemoteSlot player frame word) = Remote player frame word
entry_in grafts (DisconnectSlot player) = Disconnect player
entry_in grafts SyncSlot = Sync
entry_in grafts AdvanceSlot = Advance
entry_in grafts (GraftSlot place) = option_map_or (λ origin. Graft origin.ticket origin.route) (slice_get grafts place) Sync
entry_in grafts (PartialSlot to made) = Partial to made

abbrev pub filed : Inside → Filed
filed log =
    record { entries = map (entry_in log.grafts.items) log.slots.items; room = min (vec_capacity log.slots - vec_len log.slots) (vec_capacity log.grafts - vec_len log.grafts) }

-- a slot that names a place names one of so many
abbrev pub IsWithin : ℕ → Slot → Type 0
IsWithin count (GraftSlot place) = place < count
IsWithin count slot = Unit {0}

-- each graft's slot names the place of its origin
pub record IsFiled (log : Inside) : Type 0 where
  pub within : All (IsWithin (length log.grafts.items)) log.slots.items
  pub few : length log.grafts.items ≤ length log.slots.items
