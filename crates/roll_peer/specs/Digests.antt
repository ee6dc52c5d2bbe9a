-- The digests of the frames that were noted last.
use Rattle.std.specs.Prelude.{◌≤◌, ℕ, zero, suc, ◌+◌, ◌-◌, ◌/◌, ◌%◌, replicate, ◌&&◌, ◌==◌, nat_le, nat_lt, Option, Some, None, if◌then◌else◌, slice_set, slice_index_or}
use Rattle.std.specs.Option.{option_and_then, option_map}
use Rattle.roll_wire.specs.declared.datagram.Settled.{Settled}
use Rattle.roll_peer.specs.declared.digests.Digests.{Digests}
use Rattle.roll_peer.specs.declared.digests.TheConstants.{DIGEST_LIMIT}

abbrev pub no_digests : Digests
no_digests = record { places = replicate DIGEST_LIMIT None; last = None }

-- what was noted, if it is of this frame
abbrev pub if_of : ℕ → Settled → Option Settled
if_of frame settled = if settled.frame == frame then Some settled else None

-- what was noted of a frame
abbrev pub noted_at : Digests → ℕ → Option Settled
noted_at digests frame =
    option_and_then (if_of frame) (slice_index_or digests.places (frame % DIGEST_LIMIT) None)

-- the digest of a frame
abbrev pub digest_at : Digests → ℕ → Option ℕ
digest_at digests frame = option_map (λ settled. settled.digest) (noted_at digests frame)

-- after a frame was noted
abbrev pub noted : ℕ → ℕ → Digests → Digests
noted frame digest digests =
    let settled = Some (record { frame = frame; digest = digest }) in
    record {
      places = slice_set digests.places (frame % DIGEST_LIMIT) settled;
      last = settled;
    }

-- ---- between two frames

-- the frame in the middle between two
abbrev pub middle : ℕ → ℕ → ℕ
middle from to = from + (to - from) / 2

-- how far two frames lie apart
abbrev pub apart : ℕ → ℕ → ℕ
apart one other = if nat_lt one other then other - one else one - other

-- what was noted, if its frame is the first of these or a later one, and before the end
abbrev pub if_between : (from to : ℕ) → Option Settled → Option Settled
if_between from to None = None
if_between from to (Some settled) = if nat_le from settled.frame && nat_lt settled.frame to then Some settled else None

-- of two that may have been noted, the one nearer to a frame; the first if both are as near
abbrev pub nearer : ℕ → Option Settled → Option Settled → Option Settled
nearer frame None other = other
nearer frame (Some one) None = Some one
nearer frame (Some one) (Some other) =
    if nat_lt (apart other.frame frame) (apart one.frame frame) then Some other else Some one

-- the one nearest to the middle of those between two frames, at the first so many places
unfoldable pub nearest_among : Digests → (from to : ℕ) → ℕ → Option Settled
nearest_among digests from to zero = None
nearest_among digests from to (suc n) =
    nearer (middle from to) (nearest_among digests from to n)
    (if_between from to (slice_index_or digests.places n None))

-- the one nearest to the middle of all that were noted between two frames
abbrev pub nearest : Digests → (from to : ℕ) → Option Settled
nearest digests from to = nearest_among digests from to DIGEST_LIMIT

-- whether what was found is as near to a frame as this, or nearer
abbrev pub IsAsNear : ℕ → Option Settled → Settled → Type 0
IsAsNear frame None settled = ⊥
IsAsNear frame (Some found) settled = apart found.frame frame ≤ apart settled.frame frame
