-- Serial runs over rows that are known.
use Rattle.std.proofs.Common.{◌≡◌, ◌⊎◌, ℕ, ◌+◌, ◌<◌, ◌≤◌, List, ◌∷◌, [], true, false, Some, ap, ◌∙◌, subst, inl, inr, add-one, arith}
use Rattle.std.proofs.lemmas.Bool.{cases_Bool, cases_lt}
use Rattle.std.proofs.lemmas.List.Sums.{fold-append}
use Rattle.roll_frame.specs.Timeline.{Player, row_at, timeline}
use Rattle.roll_session.specs.Seen.{Seen, Step}
use Rattle.roll_frame.specs.declared.row.Cell.{Cell}
use Rattle.roll_peer.specs.Known.{is_row_known, IsKnownTo}
use Rattle.roll_chain.specs.Known.{known_row}
use Rattle.roll_chain.specs.States.{value_at}

-- a frame more
pub value_more : (step : Step) (s : Seen) (t : ℕ) → value_at step s (t + 1) ≡ step (value_at step s t) (row_at s.core.players t)
value_more step s t =
    ap (value_at step s) (add-one t) ∙ fold-append step s.opening (timeline s.core.players t) (row_at s.core.players t ∷ [])

pub known_more : (s : Seen) (t : ℕ) → IsKnownTo s t → is_row_known s.core.players t ≡ true → IsKnownTo s (t + 1)
known_more s t before here n below = go (cases_lt n t)
  where
    go : (n < t) ⊎ (t ≤ n) → is_row_known s.core.players n ≡ true
    go (inl earlier) = before n earlier
    go (inr last) = let same : t ≡ n = omega arith in subst (λ k. is_row_known s.core.players k ≡ true) same here

-- a row that known_row gives
pub row_given : (players : List Player) (t : ℕ) (row : List Cell) → known_row players t ≡ Some row → (is_row_known players t ≡ true) × (row ≡ row_at players t)
row_given players t row is = go (cases_Bool (is_row_known players t))
  where
    go : (is_row_known players t ≡ true) ⊎ (is_row_known players t ≡ false) → (is_row_known players t ≡ true) × (row ≡ row_at players t)
    go (inl known) = (known, cc)
    go (inr not) = absurd (cc)
