-- The words of one input have one delay.
use Rattle.std.specs.Prelude.{ℕ, ◌==◌, ◌&&◌, ◌||◌, List, Bool, is_none, Option, Some, None, slice_index, slice_index_or}
use Rattle.std.specs.List.{list_all, range_with_len}
use Rattle.roll_mesh.specs.Groups.{first_of}
use Rattle.roll_mesh.specs.declared.limits.TheConstants.{PLAYER_LIMIT}
use Rattle.roll_epoch.specs.declared.limits.TheConstants.{NO_MACHINE}
use Rattle.roll_epoch.specs.declared.terms.Terms.{Terms}

-- ---- in an epoch

-- whether player p isn't in the match, or has the delay of the first word of its input
abbrev pub is_even_at : Terms → ℕ → Bool
is_even_at terms p =
    (slice_index terms.owners p == NO_MACHINE)
    || (slice_index terms.delays p == slice_index terms.delays (first_of terms.words p))

unfoldable pub are_even : Terms → Bool
are_even terms = list_all (is_even_at terms) (range_with_len 0 PLAYER_LIMIT)

-- ---- after a mark

abbrev pub given_at : List (Option ℕ) → ℕ → Option ℕ
given_at delays p = slice_index_or delays p None

-- a player's delay then: the mark's, if it has one, else as before
abbrev pub delay_after : Option ℕ → (before : ℕ) → ℕ
delay_after None before = before
delay_after (Some delay) before = delay

abbrev pub delay_after_at : List (Option ℕ) → Terms → ℕ → ℕ
delay_after_at delays terms p = delay_after (given_at delays p) (slice_index terms.delays p)

-- whether a mark gives no delay to player p and to the first word of its input, or both have the same one then
abbrev pub is_alike_at : List (Option ℕ) → Terms → ℕ → Bool
is_alike_at delays terms p =
    (is_none (given_at delays p) && is_none (given_at delays (first_of terms.words p)))
    || (delay_after_at delays terms p == delay_after_at delays terms (first_of terms.words p))

unfoldable pub are_alike : List (Option ℕ) → Terms → Bool
are_alike delays terms = list_all (is_alike_at delays terms) (range_with_len 0 PLAYER_LIMIT)
