-- The timeline's rows from a frame on, and the longest of paths that go on from the same rows.
use Rattle.std.proofs.Common.{◌≡◌, ℕ, suc, ◌+◌, ◌-◌, ◌<◌, ◌≤◌, List, [], ◌∷◌, ◌++◌, length, get_or, refl, ap, sym, ◌∙◌, Bool, true, false, arith, take, drop, inl, inr, max}
use Rattle.std.specs.Prelude.{◌⊎◌, filter}
use Rattle.std.proofs.lemmas.Bool.{false≢true, cases_Bool, cases_lt}
use Rattle.std.proofs.lemmas.List.{get_or-drop, length-drop, drop_all, drop-append-le, drop-take, take-append-drop, drop-drop, length-append, length-map}
use Rattle.roll_frame.specs.declared.row.Cell.{Cell}
use Rattle.roll_frame.specs.Cells.{Rows}
use Rattle.roll_frame.specs.Claims.{AreRowsOf}
use Rattle.roll_frame.specs.Paths.{begins_with, longest}
use Rattle.roll_frame.specs.Timeline.{Player, cell_at, row_at, timeline}
use Rattle.roll_laws.proofs.Saved.{In, longest_at_least, take_timeline}
use Rattle.roll_frame.proofs.Timelines.{length_timeline, timeline_row}
use Rattle.roll_frame.proofs.Beginnings.{begins-behind}
use Rattle.roll_session.specs.Standing.{rows_from, from_start}

-- no rows
pub rows_from-none : (players : List Player) (from : ℕ) → rows_from players from 0 ≡ []
rows_from-none players from = drop_all from (timeline players (from + 0)) (omega (arith, length_timeline players (from + 0)))

-- one more row
pub rows_from-more : (players : List Player) (from count : ℕ) → rows_from players from (count + 1) ≡ rows_from players from count ++ row_at players (from + count) ∷ []
rows_from-more players from count =
    let e : from + (count + 1) ≡ suc (from + count) = omega arith in
    ap (λ n. drop from (timeline players n)) e ∙ drop-append-le from (timeline players (from + count)) (row_at players (from + count) ∷ []) (omega (arith, length_timeline players (from + count)))

-- as many rows as asked for
pub length-rows_from : (players : List Player) (from count : ℕ) → length (rows_from players from count) ≡ count
length-rows_from players from count =
    length-drop from (timeline players (from + count)) ∙ rw (length_timeline players (from + count)) (omega arith)

-- each with a cell for every player
pub wide-rows_from : (players : List Player) (from count : ℕ) → AreRowsOf (length players) (rows_from players from count)
wide-rows_from players from count = λ k d within.
    let time = timeline players (from + count) in
    let row = get_or-drop from time k d ∙ timeline_row players (from + count) (from + k) d (omega (arith, length-rows_from players from count)) in
    ap (λ (cells : List Cell). length cells) row ∙ length-map players (cell_at (from + k))

-- the rows up to a frame, then those from it on
pub settled-rows_from : (players : List Player) (from count : ℕ) → timeline players from ++ rows_from players from count ≡ timeline players (from + count)
settled-rows_from players from count =
    ap (λ (q : Rows). q ++ rows_from players from count) (sym (take_timeline players from (from + count) (omega arith))) ∙ take-append-drop from (timeline players (from + count))

-- the first of them
pub take-rows_from : (players : List Player) (from count k : ℕ) → k ≤ count → take k (rows_from players from count) ≡ rows_from players from k
take-rows_from players from count k h =
    sym (drop-take from k (timeline players (from + count))) ∙ ap (drop from) (take_timeline players (from + k) (from + count) (omega arith))

-- the rest of them
pub drop-rows_from : (players : List Player) (from count k : ℕ) → drop k (rows_from players from count) ≡ rows_from players (from + k) (count - k)
drop-rows_from players from count k = drop-drop k from (timeline players (from + count)) ∙ go (cases_lt k count)
  where
    none : (n : ℕ) → n ≤ from + k → drop (from + k) (timeline players n) ≡ []
    none n h = drop_all (from + k) (timeline players n) (omega (arith, length_timeline players n))

    go : (k < count) ⊎ (count ≤ k) → drop (from + k) (timeline players (from + count)) ≡ rows_from players (from + k) (count - k)
    go (inl h) = let e : from + count ≡ from + k + (count - k) = omega arith in ap (λ n. drop (from + k) (timeline players n)) e
    go (inr h) = none (from + count) (omega arith) ∙ sym (none (from + k + (count - k)) (omega arith))

-- a path goes on from the rows
pub in_start : (T p : Rows) (ps : List Rows) → In p ps → In (T ++ p) (from_start T ps)
in_start T p [] h = absurd h
in_start T p (x ∷ xs) (inl e) = inl (ap (λ (q : Rows). T ++ q) e)
in_start T p (x ∷ xs) (inr h) = inr (in_start T p xs h)

either_longest : (t a b l : ℕ) → max t l ≡ t + b → max t (max (t + a) l) ≡ t + max a b
either_longest t a b l h = grind (arith, h)

longest_after : (T : Rows) (ps : List Rows) (q : Rows) → max (length T) (longest (from_start T ps) (T ++ q)) ≡ length T + longest ps q
longest_after T [] q = omega arith
longest_after T (p ∷ ps) q = go (cases_Bool (begins_with q p)) (longest_after T ps q)
  where
    go : (begins_with q p ≡ true) ⊎ (begins_with q p ≡ false) → max (length T) (longest (from_start T ps) (T ++ q)) ≡ length T + longest ps q → max (length T) (longest (from_start T (p ∷ ps)) (T ++ q)) ≡ length T + longest (p ∷ ps) q
    go (inl e) rest = rw (begins-behind T q p) (rw e (rw (length-append T p) (either_longest (length T) (length p) (longest ps q) (longest (from_start T ps) (T ++ q)) rest)))
    go (inr e) rest = rw (begins-behind T q p) (rw e rest)

-- the longest of paths that go on from the same rows
pub longest_on : (T : Rows) (ps : List Rows) (q : Rows) → In [] ps → longest (from_start T ps) (T ++ q) ≡ length T + longest ps q
longest_on T ps q root =
    let low = longest_at_least (from_start T ps) (T ++ q) (T ++ []) (in_start T [] ps root) (begins-behind T q []) in
    omega (arith, longest_after T ps q, low, length-append T [])

-- a test that all paths pass that begin the rows leaves the longest
pub longest_some : (f : Rows → Bool) (ps : List Rows) (q : Rows) → ((p : Rows) → In p ps → begins_with q p ≡ true → f p ≡ true) → longest (filter f ps) q ≡ longest ps q
longest_some f [] q h = refl
longest_some f (x ∷ xs) q h = go (cases_Bool (begins_with q x)) (cases_Bool (f x)) (longest_some f xs q (λ p i b. h p (inr i) b))
  where
    go : (begins_with q x ≡ true) ⊎ (begins_with q x ≡ false) → (f x ≡ true) ⊎ (f x ≡ false) → longest (filter f xs) q ≡ longest xs q → longest (filter f (x ∷ xs)) q ≡ longest (x ∷ xs) q
    go (inl e) (inl g) rest = rw g (rw e (ap (max (length x)) rest))
    go (inl e) (inr g) rest = absurd (false≢true (sym g ∙ h x (inl refl) e))
    go (inr e) (inl g) rest = rw g (rw e rest)
    go (inr e) (inr g) rest = rw g (rw e rest)

-- a row of them
pub row_from : (players : List Player) (from count k : ℕ) (other : List Cell) → k < count → get_or (rows_from players from count) k other ≡ row_at players (from + k)
row_from players from count k other h = get_or-drop from (timeline players (from + count)) k other ∙ timeline_row players (from + count) (from + k) other (omega (arith, h))

-- the row of a frame, read where the timeline's rows from a frame on are told
pub row_told : (players : List Player) (from frame : ℕ) (rows time : Rows) (other : List Cell) → rows ≡ time → time ≡ rows_from players from (length time) → from ≤ frame → frame < from + length time
    → get_or rows (frame - from) other ≡ row_at players frame
row_told players from frame rows time other same told low high =
    let here : from + (frame - from) ≡ frame = omega (arith, low) in
    ap (λ (q : Rows). get_or q (frame - from) other) (same ∙ told) ∙ row_from players from (length time) (frame - from) other (omega (arith, low, high)) ∙ ap (row_at players) here
