-- The pairs of advantages that were noted last, and the wait that they advise.
use Rattle.std.specs.Prelude.{ℕ, ◌+◌, ◌*◌, ◌/◌, ◌≤◌, min, nat_lt, if◌then◌else◌, ℤ, pos, neg_ℤ, ◌+ℤ◌, ◌-ℤ◌, ◌≤ℤ◌, List, [], ◌∷◌, ◌++◌, length, fold, All, int_lt, unsigned_abs}
use Rattle.std.specs.Int.{int_max, int_min}
use Rattle.circular_buffer.specs.Buffer.{keep_last}
use Rattle.roll_frame.specs.declared.limits.TheConstants.{ADVICE_WINDOW, ADVANTAGE_LIMIT, LEAST_ADVICE, MOST_ADVICE}

-- pairs of a local and a remote advantage, the oldest first
abbrev pub Window : Type 0
Window = List (ℤ × ℤ)

-- z is at most the limit away from 0
abbrev pub IsWithin : ℤ → ℤ → Type 0
IsWithin limit z = (neg_ℤ limit ≤ℤ z) × (z ≤ℤ limit)

-- both advantages of a pair are within the limit
abbrev pub IsHeld : ℤ × ℤ → Type 0
IsHeld pair = IsWithin ADVANTAGE_LIMIT pair.0 × IsWithin ADVANTAGE_LIMIT pair.1

-- what holds of each window
pub record IsWindow (window : Window) : Type 0 where
  pub short : length window ≤ ADVICE_WINDOW
  pub in_range : All IsHeld window

-- an advantage, held to the limit on both sides
abbrev pub held : ℤ → ℤ
held advantage = int_max (neg_ℤ ADVANTAGE_LIMIT) (int_min advantage ADVANTAGE_LIMIT)

-- the window after one more pair
abbrev pub noted : Window → ℤ → ℤ → Window
noted window local remote = keep_last ADVICE_WINDOW (window ++ (held local, held remote) ∷ [])

-- the sum of the local advantages
abbrev pub local_sum : Window → ℤ
local_sum window = fold (λ sum pair. sum +ℤ pair.0) (pos 0) window

-- the sum of the remote advantages
abbrev pub remote_sum : Window → ℤ
remote_sum window = fold (λ sum pair. sum +ℤ pair.1) (pos 0) window

-- half of total / count, to the nearest number, halves up
abbrev pub half_mean : ℕ → ℕ → ℕ
half_mean total count = (total + count) / (2 * count)

-- a short wait is none, and a long one is cut
abbrev pub advised : ℕ → ℕ
advised wait = if nat_lt wait LEAST_ADVICE then 0 else min wait MOST_ADVICE

-- the frames to wait: none unless the remote sum is the greater one, so none in an empty window
abbrev pub advice_of : Window → ℕ
advice_of window =
    if int_lt (local_sum window) (remote_sum window)
    then advised (half_mean (unsigned_abs (remote_sum window -ℤ local_sum window)) (length window))
    else 0
