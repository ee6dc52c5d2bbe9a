-- By how many half frames a machine leads none of the others, and one more after the first so many; and the most of them.
use Rattle.std.proofs.Common.{◌≡◌, ◌≤◌, ℤ, ℕ, zero, suc, ◌+◌, Bool, true, false, arith, refl}
use Rattle.std.specs.Prelude.{◌-ℤ◌, cond, int_lt, max, min, unsigned_abs}
use Rattle.roll_peer.specs.Peered.{Peered}
use Rattle.roll_peer.specs.Sending.{is_lost, stats_of}
use Rattle.roll_match.specs.Pacing.{half_frames, lead_of, lead_over}
use Rattle.roll_match.specs.declared.pacing.TheConstants.{LEAD_LIMIT}

pub lead_none : (peer : Peered) → lead_of peer 0 ≡ 0
unfolding lead_of
lead_none peer = refl

pub lead_next : (peer : Peered) (n : ℕ) → lead_of peer (n + 1) ≡ max (lead_of peer n) (lead_over peer n)
unfolding lead_of
lead_next peer n = rw (after n) refl
  where
    after : (n : ℕ) → n + 1 ≡ suc n
    after n = omega arith

at_most : (b : Bool) (n : ℕ) → cond b (min n LEAD_LIMIT) 0 ≤ LEAD_LIMIT
at_most true n = omega arith
at_most false n = omega arith

none_or : (b : Bool) (n : ℕ) → n ≤ LEAD_LIMIT → cond b 0 n ≤ LEAD_LIMIT
none_or true n l = omega arith
none_or false n l = l

over_most : (peer : Peered) (m : ℕ) → lead_over peer m ≤ LEAD_LIMIT
over_most peer m =
    let stats = stats_of peer m in
    none_or (is_lost peer m) (half_frames stats.frames_behind stats.their_frames_behind)
    (at_most (int_lt stats.frames_behind stats.their_frames_behind) (unsigned_abs (stats.their_frames_behind -ℤ stats.frames_behind)))

pub lead_most : (peer : Peered) (n : ℕ) → lead_of peer n ≤ LEAD_LIMIT
unfolding lead_of
lead_most peer zero = omega arith
lead_most peer (suc n) = omega (arith, lead_most peer n, over_most peer n)
