-- Rows that wait are sent to a spectator one after the other.
use Rattle.std.proofs.Common.{◌≡◌, ◌∙◌, ◌≤◌, ◌<◌, ◌⊎◌, ◌+◌, ℕ, List, [], ◌∷◌, ◌++◌, length, take, drop, get_or, refl, sym, ap, arith, inl, inr, Some, append_assoc, append-nil}
use Rattle.std.specs.Prelude.{None, slice_get}
use Rattle.std.proofs.lemmas.Bool.{cases_lt}
use Rattle.std.proofs.lemmas.List.{drop-drop, get_or-drop, length-drop, take_more}
use Rattle.std.proofs.lemmas.Option.{none-some, slice_get-get_or, slice_get_past}
use Rattle.roll_frame.specs.Cells.{Rows}
use Rattle.roll_frame.specs.declared.limits.TheConstants.{FRAME_LIMIT}
use Rattle.roll_frame.specs.declared.row.Cell.{Cell}
use Rattle.roll_spectate.specs.Sent.{Fed, IsFilled, IsSentMore}
use Rattle.roll_viewer.specs.Queued.{with_taken, IsHandedOn, Queued}

-- so many were sent
pub record IsHandedTo (old now : Queued) (before sent : Fed) (count : ℕ) : Type 0 where
  pub taken : now ≡ with_taken count old
  pub ring : sent.ring ≡ before.ring
  pub rows : sent.rows ≡ before.rows ++ take count old.waiting
  pub few : count ≤ length old.waiting

-- the first of some rows
there : (rows : Rows) (row : List Cell) → slice_get rows 0 ≡ Some row → (0 < length rows) × (get_or rows 0 [] ≡ row)
there rows row e = go (cases_lt 0 (length rows))
  where
    go : (0 < length rows) ⊎ (length rows ≤ 0) → (0 < length rows) × (get_or rows 0 [] ≡ row)
    go (inl l) =
        let same : Some (get_or rows 0 []) ≡ Some row = sym (slice_get-get_or rows 0 [] l) ∙ e in
        (l, cc same)
    go (inr past) = absurd (none-some row (sym (slice_get_past rows 0 past) ∙ e))

pub none_there : (rows : Rows) → slice_get rows 0 ≡ None → length rows ≤ 0
none_there rows e = go (cases_lt 0 (length rows))
  where
    go : (0 < length rows) ⊎ (length rows ≤ 0) → length rows ≤ 0
    go (inl l) = absurd (none-some (get_or rows 0 []) (sym e ∙ slice_get-get_or rows 0 [] l))
    go (inr past) = past

-- one waits less
pub one_less : (rows : Rows) (row : List Cell) → slice_get rows 0 ≡ Some row → length (drop 1 rows) < length rows
one_less rows row e = omega (arith, (there rows row e).0, length-drop 1 rows)

module _ (old now : Queued) (before sent : Fed) (count : ℕ) (s : IsHandedTo old now before sent count) where
  waits : now.waiting ≡ drop count old.waiting
  waits = ap (λ (q : Queued). q.waiting) s.taken

  -- one row more
  pub handed_more : (row : List Cell) (next : Queued) (more : Fed) → slice_get now.waiting 0 ≡ Some row → IsSentMore (row ∷ []) sent more
      → next ≡ with_taken 1 now → IsHandedTo old next before more (count + 1)
  handed_more row next more first one made =
      let at = there now.waiting row first in
      let inside : count < length old.waiting = omega (arith, at.0, ap (λ (rows : Rows). length rows) waits, length-drop count old.waiting) in
      let none_past : count ≡ count + 0 = omega arith in
      let is : get_or old.waiting count [] ≡ row =
      ap (λ n. get_or old.waiting n []) none_past ∙ sym (get_or-drop count old.waiting 0 [])
      ∙ ap (λ (rows : Rows). get_or rows 0 []) (sym waits) ∙ at.1 in
      record {
        taken = made ∙ ap (with_taken 1) s.taken
            ∙ ap (λ (rows : Rows). record old { waiting = rows }) (drop-drop 1 count old.waiting);
        ring = one.ring ∙ s.ring;
        rows = one.rows ∙ ap (λ (rows : Rows). rows ++ row ∷ []) s.rows
            ∙ append_assoc before.rows (take count old.waiting) (row ∷ [])
            ∙ ap (λ (rows : Rows). before.rows ++ rows) (ap (λ (r : List Cell). take count old.waiting ++ r ∷ []) (sym is) ∙ sym (take_more old.waiting count [] inside));
        few = omega (arith, inside);
      }

  -- all were sent, or no more can be
  pub handed : (length now.waiting ≤ 0) ⊎ (IsFilled sent ⊎ (FRAME_LIMIT ≤ length sent.rows)) → IsHandedOn old now before sent count
  handed why = record {
    taken = s.taken;
    ring = s.ring;
    sent = s.rows;
    few = s.few;
    all = elim why [
      | inl none ↦ inl (omega (arith, none, ap (λ (rows : Rows). length rows) waits, length-drop count old.waiting))
      | inr full ↦ inr full
    ];
  }

-- none was sent yet
pub none_handed : (old : Queued) (before : Fed) → IsHandedTo old old before before 0
none_handed old before = record { taken = refl; ring = refl; rows = sym (append-nil before.rows); few = omega arith }
