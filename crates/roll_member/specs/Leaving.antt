-- Players who have left the mesh leave the session.
use Rattle.std.specs.Prelude.{◌≡◌, ℕ, ◌+◌, ◌<◌, List, [], ◌∷◌, Bool, true, false, None, is_some, if◌then◌else◌, slice_index_or, IfSome, IfNone}
use Rattle.roll_frame.specs.declared.refusal.Refusal.{Refusal}
use Rattle.roll_mesh.specs.declared.limits.TheConstants.{PLAYER_LIMIT}
use Rattle.roll_mesh.specs.declared.machine.Machine.{Machine}
use Rattle.roll_mesh.specs.Machines.{left, left_at}
use Rattle.roll_mesh.specs.Meshes.{stepped}
use Rattle.roll_session.specs.Changes.{after_disconnect, disconnect_refusal, IsRefused}
use Rattle.roll_session.specs.Seen.{Seen}
use Rattle.roll_member.specs.Joined.{is_gone_at, Joined}
use Rattle.roll_member.specs.declared.leaving.Left.{Left}
use Rattle.roll_member.specs.declared.leaving.Parted.{Parted}

-- whether the player at a place has left the mesh
abbrev pub has_left : Machine → ℕ → Bool
has_left machine p = is_some (left_at machine p)

-- a session can't disconnect a player yet: its log is full, or there is no memory
abbrev pub IsKept : Seen → ℕ → Refusal → Type 0
IsKept s p why = IsRefused (disconnect_refusal s (p + 1)) s s why

-- the player at a place was disconnected, if it has left the mesh and wasn't disconnected before
pub record Disconnects (old : Seen) (machine : Machine) (p : ℕ) (new : Seen) (parted : Parted)
    : Type 0 where
  pub session : new ≡ (if parted.left then after_disconnect old (p + 1) else old)
  pub only : parted.left ≡ true → (has_left machine p ≡ true)
      × (disconnect_refusal old (p + 1) ≡ None)
  pub done : IfNone parted.refusal (has_left machine p ≡ true → is_gone_at new p ≡ true)
  pub short : IfSome parted.refusal (λ why. (has_left machine p ≡ true) × IsKept old p why)

-- the session after these players were disconnected, the first of whom is the one at a place
abbrev pub disconnected : List Bool → ℕ → Seen → Seen
disconnected [] p s = s
disconnected (goes ∷ more) p s =
    disconnected more (p + 1) (if goes then after_disconnect s (p + 1) else s)

-- a player is still there at some moment
pub record IsWaiting (machine : Machine) (why : Refusal) : Type 0 where
  pub moment : Seen
  pub place : ℕ
  pub left : has_left machine place ≡ true
  pub kept : IsKept moment place why

-- each player that has left the mesh was disconnected, or couldn't be yet
pub record DisconnectsAll (old : Seen) (machine : Machine) (new : Seen) (who : Left) : Type 0 where
  pub session : new ≡ disconnected who.players 0 old
  pub only : (p : ℕ) → p < PLAYER_LIMIT → slice_index_or who.players p false ≡ true
      → (has_left machine p ≡ true) × (is_gone_at old p ≡ false)
  pub done : IfNone who.refusal
      ((p : ℕ) → p < PLAYER_LIMIT → has_left machine p ≡ true → is_gone_at new p ≡ true)
  pub short : IfSome who.refusal (IsWaiting machine)

-- the players of who is gone leave, if they may
pub record Leaves (old new : Joined) (who : Left) : Type 0 where
  pub mesh : new.mesh ≡ stepped left old.mesh
  pub session : DisconnectsAll old.session new.mesh.machine new.session who
