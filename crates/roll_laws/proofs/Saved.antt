-- Saved paths: which the timeline begins with, and the longest of them.
use Rattle.std.proofs.Common.{◌≡◌, ℕ, zero, suc, ◌+◌, ◌≤◌, List, [], ◌∷◌, ◌++◌, length, map, refl, ap, sym, ◌∙◌, Bool, true, false, arith, take, subst, inl, inr, length-take, max}
use Rattle.std.specs.Prelude.{◌⊎◌}
use Rattle.std.proofs.lemmas.Bool.{false≢true, or_cases, or_left, or_right}
use Rattle.roll_frame.specs.Cells.{rows_eq, Rows}
use Rattle.roll_frame.specs.Impls.Equal.{rows_eq-Decides}
use Rattle.roll_frame.specs.Paths.{begins_with, longest, contains}
use Rattle.roll_frame.specs.Timeline.{Player, row_at, timeline}
use Rattle.roll_frame.proofs.Beginnings.{begins, begins_is}
use Rattle.roll_frame.proofs.Timelines.{length_timeline}
use Rattle.roll_laws.proofs.Known.{OnTime}

-- q is one of these paths
abbrev pub In : Rows → List Rows → Type 0
In q [] = ⊥
In q (p ∷ ps) = (q ≡ p) ⊎ In q ps

pub in_left : (q : Rows) (ps qs : List Rows) → In q ps → In q (ps ++ qs)
in_left q [] qs h = absurd h
in_left q (p ∷ ps) qs (inl e) = inl e
in_left q (p ∷ ps) qs (inr h) = inr (in_left q ps qs h)

pub in_right : (q : Rows) (ps qs : List Rows) → In q qs → In q (ps ++ qs)
in_right q [] qs h = h
in_right q (p ∷ ps) qs h = inr (in_right q ps qs h)

pub in_either : (q : Rows) (ps qs : List Rows) → In q (ps ++ qs) → In q ps ⊎ In q qs
in_either q [] qs h = inr h
in_either q (p ∷ ps) qs (inl e) = inl (inl e)
in_either q (p ∷ ps) qs (inr h) = go (in_either q ps qs h)
  where
    go : In q ps ⊎ In q qs → In q (p ∷ ps) ⊎ In q qs
    go (inl i) = inl (inr i)
    go (inr i) = inr i

pub in_map : (f : Rows → Rows) (q : Rows) (ps : List Rows) → In q ps → In (f q) (map f ps)
in_map f q [] h = absurd h
in_map f q (p ∷ ps) (inl e) = inl (ap f e)
in_map f q (p ∷ ps) (inr h) = inr (in_map f q ps h)

-- what is among mapped paths was mapped from one of them
pub map_in : (f : Rows → Rows) (q : Rows) (ps : List Rows) → In q (map f ps) → (p : Rows) × In p ps × (q ≡ f p)
map_in f q [] h = absurd h
map_in f q (p ∷ ps) (inl e) = (p, inl refl, e)
map_in f q (p ∷ ps) (inr h) = let r = map_in f q ps h in (r.0, inr r.1, r.2)

pub has_in : (ps : List Rows) (q : Rows) → contains ps q ≡ true → In q ps
has_in [] q h = false≢true h
has_in (p ∷ ps) q h = go (or_cases (rows_eq q p) (contains ps q) h) (has_in ps q)
  where
    go : (rows_eq q p ≡ true) ⊎ (contains ps q ≡ true) → (contains ps q ≡ true → In q ps) → In q (p ∷ ps)
    go (inl e) rest = inl ((rows_eq-Decides q p).0 e)
    go (inr e) rest = inr (rest e)

pub in_has : (ps : List Rows) (q : Rows) → In q ps → contains ps q ≡ true
in_has [] q h = absurd h
in_has (p ∷ ps) q (inl e) = or_left (rows_eq q p) (contains ps q) ((rows_eq-Decides q p).1 e)
in_has (p ∷ ps) q (inr h) = or_right (rows_eq q p) (contains ps q) (in_has ps q h)

pub longest_at_least : (ps : List Rows) (q p : Rows) → In p ps → begins_with q p ≡ true → length p ≤ longest ps q
longest_at_least [] q p i b = absurd i
longest_at_least (x ∷ xs) q p i b = go (begins_with q x) refl i (λ there. longest_at_least xs q p there b)
  where
    go : (t : Bool) → begins_with q x ≡ t → In p (x ∷ xs) → (In p xs → length p ≤ longest xs q) → length p ≤ longest (x ∷ xs) q
    go true e (inl same) rest = rw e (omega (arith, ap length same))
    go false e (inl same) rest = absurd (false≢true (sym e ∙ subst (λ (r : Rows). begins_with q r ≡ true) same b))
    go true e (inr there) rest = let least : length p ≤ longest xs q = rest there in rw e (omega arith)
    go false e (inr there) rest = rw e (rest there)

-- n is 0, or the length of one of them that q begins with
abbrev pub IsLength : List Rows → Rows → ℕ → Type 0
IsLength ps q n = (n ≡ 0) ⊎ (In (take n q) ps × (n ≤ length q))

more_lengths : (x : Rows) (xs : List Rows) (q : Rows) (n : ℕ) → IsLength xs q n → IsLength (x ∷ xs) q n
more_lengths x xs q n (inl e) = inl e
more_lengths x xs q n (inr h) = inr (inr h.0, h.1)

first_length : (x : Rows) (xs : List Rows) (q : Rows) → begins_with q x ≡ true → IsLength (x ∷ xs) q (length x)
first_length x xs q e = let s = begins_is q x e in inr (inl (sym s), omega (arith, ap length s, length-take (length x) q))

larger : (a b : ℕ) → (max a b ≡ a) ⊎ (max a b ≡ b)
larger a b = grind arith

either_length : (ps : List Rows) (q : Rows) (m a b : ℕ) → IsLength ps q a → IsLength ps q b → (m ≡ a) ⊎ (m ≡ b) → IsLength ps q m
either_length ps q m a b h k (inl e) = subst (IsLength ps q) (sym e) h
either_length ps q m a b h k (inr e) = subst (IsLength ps q) (sym e) k

longest_begins : (x : Rows) (xs : List Rows) (q : Rows) → begins_with q x ≡ true → longest (x ∷ xs) q ≡ max (length x) (longest xs q)
longest_begins x xs q e = rw e refl

longest_passes : (x : Rows) (xs : List Rows) (q : Rows) → begins_with q x ≡ false → longest (x ∷ xs) q ≡ longest xs q
longest_passes x xs q e = rw e refl

-- the longest of them is one of them
pub longest_is : (ps : List Rows) (q : Rows) → IsLength ps q (longest ps q)
longest_is [] q = inl refl
longest_is (x ∷ xs) q = go (begins_with q x) refl (longest_is xs q)
  where
    go : (t : Bool) → begins_with q x ≡ t → IsLength xs q (longest xs q) → IsLength (x ∷ xs) q (longest (x ∷ xs) q)
    go true e rest = subst (IsLength (x ∷ xs) q) (sym (longest_begins x xs q e)) (either_length (x ∷ xs) q (max (length x) (longest xs q)) (length x) (longest xs q) (first_length x xs q e) (more_lengths x xs q (longest xs q) rest) (larger (length x) (longest xs q)))
    go false e rest = subst (IsLength (x ∷ xs) q) (sym (longest_passes x xs q e)) (more_lengths x xs q (longest xs q) rest)

-- k rows of the timeline, from frame t on
abbrev pub rows_from : List Player → ℕ → ℕ → Rows
rows_from ps t zero = []
rows_from ps t (suc k) = row_at ps t ∷ rows_from ps (suc t) k

rows_from_more : (ps : List Player) (t k : ℕ) → rows_from ps t (suc k) ≡ rows_from ps t k ++ row_at ps (t + k) ∷ []
rows_from_more ps t zero = ap (λ n. row_at ps n ∷ []) (omega arith)
rows_from_more ps t (suc k) =
    let place : suc t + k ≡ t + suc k = omega arith in
    ap (λ rs. row_at ps t ∷ rs) (rows_from_more ps (suc t) k ∙ ap (λ n. rows_from ps (suc t) k ++ row_at ps n ∷ []) place)

pub timeline_is : (ps : List Player) (m : ℕ) → timeline ps m ≡ rows_from ps 0 m
timeline_is ps zero = refl
timeline_is ps (suc m) =
    let place : m ≡ 0 + m = omega arith in
    ap (λ rs. rs ++ row_at ps m ∷ []) (timeline_is ps m) ∙ ap (λ n. rows_from ps 0 m ++ row_at ps n ∷ []) place ∙ sym (rows_from_more ps 0 m)

take_rows : (ps : List Player) (t k m : ℕ) → k ≤ m → take k (rows_from ps t m) ≡ rows_from ps t k
take_rows ps t zero m h = refl
take_rows ps t (suc k) zero h = absurd (omega arith)
take_rows ps t (suc k) (suc m) h = ap (λ rs. row_at ps t ∷ rs) (take_rows ps (suc t) k m (omega arith))

pub take_timeline : (ps : List Player) (k m : ℕ) → k ≤ m → take k (timeline ps m) ≡ timeline ps k
take_timeline ps k m h = ap (take k) (timeline_is ps m) ∙ take_rows ps 0 k m h ∙ sym (timeline_is ps k)

rows_on_time : (t : ℕ) (ps : List Player) (q : Rows) → OnTime t ps q → q ≡ rows_from ps t (length q)
rows_on_time t ps [] h = refl
rows_on_time t ps (row ∷ rows) h = cc (h.0, rows_on_time (suc t) ps rows h.1)

on_time_rows : (t : ℕ) (ps : List Player) (k : ℕ) → OnTime t ps (rows_from ps t k)
on_time_rows t ps zero = tt
on_time_rows t ps (suc k) = (refl, on_time_rows (suc t) ps k)

-- a path is on time where it is the timeline's first rows
pub on_time_is : (ps : List Player) (q : Rows) → OnTime 0 ps q → q ≡ timeline ps (length q)
on_time_is ps q h = rows_on_time 0 ps q h ∙ sym (timeline_is ps (length q))

pub timeline_on_time : (ps : List Player) (k : ℕ) → OnTime 0 ps (timeline ps k)
timeline_on_time ps k = subst (OnTime 0 ps) (sym (timeline_is ps k)) (on_time_rows 0 ps k)

-- the timeline begins with what is on time and no longer than it
pub time_begins : (ps : List Player) (m : ℕ) (q : Rows) → OnTime 0 ps q → length q ≤ m → begins_with (timeline ps m) q ≡ true
time_begins ps m q h l = begins (timeline ps m) q (on_time_is ps q h ∙ sym (take_timeline ps (length q) m l))

pub begins_on_time : (ps : List Player) (m : ℕ) (q : Rows) → begins_with (timeline ps m) q ≡ true → OnTime 0 ps q × (length q ≤ m)
begins_on_time ps m q h =
    let e = begins_is (timeline ps m) q h in
    let l : length q ≤ m = omega (arith, ap length e, length-take (length q) (timeline ps m), length_timeline ps m) in
    (subst (OnTime 0 ps) (sym (e ∙ take_timeline ps (length q) m l)) (timeline_on_time ps (length q)), l)
