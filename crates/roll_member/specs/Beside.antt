-- A mesh beside a session. The session's own players may have more words than the mesh knows of yet.
use Rattle.std.specs.Prelude.{◌≡◌, ℕ, ◌<◌, Bool, true, false, not, ◌==◌, ◌&&◌, ◌||◌, nat_le, length, is_some, Some, slice_index}
use Rattle.std.specs.List.{list_all, range_with_len}
use Rattle.roll_frame.specs.declared.settings.Settings.{Settings}
use Rattle.roll_mesh.specs.declared.limits.TheConstants.{PLAYER_LIMIT}
use Rattle.roll_mesh.specs.Machines.{at_places, is_in, left_at, owner_of}
use Rattle.roll_mesh.specs.Meshes.{Seated}
use Rattle.roll_session.specs.Seen.{Seen}
use Rattle.roll_member.specs.Joined.{is_gone_at, is_seated_at, known, IsWhole}

-- what a mesh keeps by itself: who has left has as many words as it left at, and isn't the machine's own
pub record IsSteadyAt (mesh : Seated) (p : ℕ) : Type 0 where
  pub stays : (n : ℕ) → left_at mesh.machine p ≡ Some n → slice_index mesh.machine.has p ≡ n
  pub remote : is_some (left_at mesh.machine p) ≡ true
      → (owner_of mesh.seat p == mesh.seat.me) ≡ false

pub record IsSteady (mesh : Seated) : Type 0 where
  pub whole : IsWhole mesh
  pub here : is_in mesh.machine.gone mesh.seat.me ≡ false
  pub sized : length mesh.machine.has ≡ PLAYER_LIMIT
  pub players : (p : ℕ) → p < PLAYER_LIMIT → IsSteadyAt mesh p

-- whether a session may be the mesh's, as far as the player at a place tells
abbrev pub is_near_at : Seen → Seated → ℕ → Bool
is_near_at s mesh p =
    is_seated_at s mesh.seat p
    && (nat_le (slice_index mesh.machine.has p) (known s mesh.seat p)
    && (((owner_of mesh.seat p == mesh.seat.me)
    || (slice_index mesh.machine.has p == known s mesh.seat p))
    && (not (is_gone_at s p) || is_some (left_at mesh.machine p))))

unfoldable pub is_near : Seen → Seated → Bool
is_near s mesh = list_all (is_near_at s mesh) (range_with_len 0 PLAYER_LIMIT)

-- the mesh once it knows of the words that the session has
abbrev pub caught_up : Seen → Seated → Seated
caught_up s mesh = record mesh {
  machine = record mesh.machine {
    has = at_places (known s mesh.seat) mesh.machine.has;
  };
}

-- what a machine knows of the others of a match, and the settings of its session
pub record Membership : Type 0 where
  pub limits : Settings
  pub mesh : Seated

-- a session that is the match's
pub record IsOf (s : Seen) (member : Membership) : Type 0 where
  pub limits : s.settings ≡ member.limits
  pub near : is_near s member.mesh ≡ true

-- a machine once it knows of the words that its session has
abbrev pub met : Seen → Membership → Membership
met s member = record member { mesh = caught_up s member.mesh }
