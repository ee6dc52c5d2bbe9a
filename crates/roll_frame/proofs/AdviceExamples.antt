-- What the definitions give for a few windows, and at the limits.
use Rattle.std.proofs.Common.{◌≡◌, [], ◌∷◌, replicate, pos, neg_ℤ, refl}
use Rattle.roll_frame.specs.Advice.{held, noted, advice_of}

pub six_ahead : advice_of (replicate 40 (neg_ℤ (pos 6), pos 6)) ≡ 6
six_ahead = refl

pub two_ahead : advice_of (replicate 40 (neg_ℤ (pos 2), pos 2)) ≡ 0
two_ahead = refl

pub empty : advice_of [] ≡ 0
empty = refl

pub far_ahead : advice_of (replicate 40 (neg_ℤ (pos 30), pos 30)) ≡ 9
far_ahead = refl

pub once_ahead : advice_of ((neg_ℤ (pos 3), pos 2) ∷ []) ≡ 3
once_ahead = refl

pub once_behind : advice_of ((pos 6, neg_ℤ (pos 6)) ∷ []) ≡ 0
once_behind = refl

pub held_above : held (pos 121) ≡ pos 120
held_above = refl

pub held_below : held (neg_ℤ (pos 121)) ≡ neg_ℤ (pos 120)
held_below = refl

pub forty_kept : noted (replicate 40 (pos 1, pos 1)) (pos 1) (pos 1) ≡ replicate 40 (pos 1, pos 1)
forty_kept = refl
