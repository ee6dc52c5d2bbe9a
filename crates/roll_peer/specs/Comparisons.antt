-- How a machine's settled states compare with this one's: which is the first frame that differs.
use Rattle.std.specs.Prelude.{ℕ, ◌-◌, ◌%◌, max, min, Bool, false, not, ◌&&◌, ◌||◌, ◌==◌, nat_le, nat_lt, is_none, Option, Some, None, if◌then◌else◌}
use Rattle.std.specs.Option.{option_or}
use Rattle.roll_contact.specs.Clocks.{one_more, since}
use Rattle.roll_wire.specs.declared.datagram.Settled.{Settled}
use Rattle.roll_peer.specs.Digests.{digest_at, nearest, noted_at}
use Rattle.roll_peer.specs.declared.comparison.Comparison.{Comparison}
use Rattle.roll_peer.specs.declared.comparison.TheConstants.{SEARCH_LIMIT}
use Rattle.roll_peer.specs.declared.digests.Digests.{Digests}

-- nothing was compared
abbrev pub no_comparison : Comparison
no_comparison = record { from = 0; differs = None; seen = 0; told = false }

-- ---- a digest is heard

-- a frame was found alike: if it lies before all that differ, the first one that does lies after it
abbrev pub found_alike : ℕ → Option ℕ → Comparison → Comparison
found_alike frame None comparison = record comparison { from = max comparison.from (one_more frame) }
found_alike frame (Some least) comparison =
    if nat_lt frame least then record comparison { from = max comparison.from (one_more frame) } else comparison

-- a frame was found to differ, at a moment
abbrev pub found_other : ℕ → ℕ → Option ℕ → Comparison → Comparison
found_other frame now None comparison = record comparison { differs = Some frame; seen = now }
found_other frame now (Some least) comparison = record comparison { differs = Some (min least frame) }

-- the digest of a frame was heard, of which this machine may have noted one
abbrev pub compared_with : Settled → ℕ → Option ℕ → Comparison → Comparison
compared_with settled now None comparison = comparison
compared_with settled now (Some ours) comparison =
    if ours == settled.digest then found_alike settled.frame comparison.differs comparison
    else found_other settled.frame now comparison.differs comparison

abbrev pub compared : Digests → Option Settled → ℕ → Comparison → Comparison
compared digests None now comparison = comparison
compared digests (Some settled) now comparison =
    compared_with settled now (digest_at digests settled.frame) comparison

-- ---- the first frame that differs is sought

-- the least frame that was found to differ, for as long as the first one is sought
abbrev pub sought : ℕ → Comparison → Option ℕ
sought now comparison = if nat_le (since now comparison.seen) SEARCH_LIMIT then comparison.differs else None

-- the digest by which the other machine halves the frames that may be the first to differ: of those that were noted, the one nearest
-- to the middle; if none was, the last that is alike
abbrev pub halving : Digests → Comparison → ℕ → Option Settled
halving digests comparison differs =
    option_or (nearest digests comparison.from differs) (noted_at digests (comparison.from - 1))

-- what is told in a packet of this number: by turns that one, and that which differs, so that the other machine seeks too
abbrev pub seeking : Digests → (number : ℕ) → Comparison → ℕ → Option Settled
seeking digests number comparison differs =
    if number % 2 == 0 then halving digests comparison differs else noted_at digests differs

-- ---- what is told

-- whether no earlier frame that differs can be found: none is noted between, the search took too long, or the machine is gone
abbrev pub is_over : Digests → (now : ℕ) → (is_gone : Bool) → Comparison → ℕ → Bool
is_over digests now is_gone comparison differs =
    is_none (nearest digests comparison.from differs)
    || (nat_lt SEARCH_LIMIT (since now comparison.seen) || is_gone)

-- the frame that is to be told now, if any is: each machine's once
abbrev pub to_tell : Digests → (now : ℕ) → (is_gone : Bool) → Comparison → Option ℕ → Option ℕ
to_tell digests now is_gone comparison None = None
to_tell digests now is_gone comparison (Some differs) =
    if not comparison.told && is_over digests now is_gone comparison differs then Some differs else None
