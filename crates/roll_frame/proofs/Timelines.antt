-- The rows of a timeline.
use Rattle.std.proofs.Common.{◌≡◌, ◌⊎◌, ℕ, zero, suc, ◌<◌, ◌≤◌, List, [], ◌∷◌, ◌++◌, length, get_or, map, refl, ap, sym, ◌∙◌, inl, inr, arith, length-append}
use Rattle.std.proofs.Math.Seq.{get_or-append_seam}
use Rattle.std.proofs.lemmas.Bool.{cases_lt}
use Rattle.std.proofs.lemmas.List.{get_or_append_left}
use Rattle.roll_frame.specs.declared.row.Cell.{Cell}
use Rattle.roll_frame.specs.Inputs.{with_none_given}
use Rattle.roll_frame.specs.Timeline.{Player, cell_at, row_at, timeline}

pub length_timeline : (players : List Player) (m : ℕ) → length (timeline players m) ≡ m
length_timeline players zero = refl
length_timeline players (suc m) = omega (arith, length-append (timeline players m) (row_at players m ∷ []), length_timeline players m)

-- a row of the timeline, by its place
pub timeline_row : (players : List Player) (m t : ℕ) (d : List Cell) → t < m → get_or (timeline players m) t d ≡ row_at players t
timeline_row players zero t d h = absurd (omega arith)
timeline_row players (suc m) t d h = by_place (cases_lt t m) (timeline_row players m t d)
  where
    long : length (timeline players m) ≡ m
    long = length_timeline players m

    by_place : (t < m) ⊎ (m ≤ t) → (t < m → get_or (timeline players m) t d ≡ row_at players t) → get_or (timeline players m ++ row_at players m ∷ []) t d ≡ row_at players t
    by_place (inl before) rest = get_or_append_left (timeline players m) (row_at players m ∷ []) d t (omega (arith, long)) ∙ rest before
    by_place (inr last) rest =
        let t_is : t ≡ length (timeline players m) = omega (arith, long) in
        let m_is : t ≡ m = omega arith in
        ap (λ (k : ℕ). get_or (timeline players m ++ row_at players m ∷ []) k d) t_is ∙ (get_or-append_seam (timeline players m) (row_at players m) [] d ∙ ap (row_at players) (sym m_is))

row_none_given : (players : List Player) (t : ℕ) → row_at (map with_none_given players) t ≡ row_at players t
row_none_given [] t = refl
row_none_given (p ∷ players) t = ap (λ cells. cell_at t p ∷ cells) (row_none_given players t)

-- a new frame leaves the timeline
pub timeline_none_given : (players : List Player) (m : ℕ) → timeline (map with_none_given players) m ≡ timeline players m
timeline_none_given players zero = refl
timeline_none_given players (suc m) = cc (timeline_none_given players m, row_none_given players m)
