-- What a graft adds, as a run of prefixes.
use Rattle.std.proofs.Common.{◌≡◌, ℕ, zero, suc, ◌+◌, ◌-◌, ◌<◌, ◌≤◌, List, [], ◌∷◌, ◌++◌, length, refl, ap, sym, ◌∙◌, Bool, true, false, arith, take, subst, inl, inr, length-take, length-append}
use Rattle.std.specs.Prelude.{◌⊎◌, filter, not, ◌&&◌}
use Rattle.std.proofs.lemmas.Bool.{false≢true, cases_lt, false_from_ne_true}
use Rattle.std.proofs.lemmas.List.{append-nil, take-take}
use Rattle.std.proofs.lemmas.List.Elements.{filter-append}
use Rattle.roll_frame.proofs.Beginnings.{begins, begins_is, longest_within}
use Rattle.roll_frame.specs.Cells.{Rows}
use Rattle.roll_frame.specs.Core.{Core, is_possible, kept, possible_from, row_possible, settled}
use Rattle.roll_frame.specs.Grafts.{Branch, anchor, anchor_length, new_paths, start_of, whole_of}
use Rattle.roll_frame.specs.Paths.{begins_with, contains, longest, prefixes}
use Rattle.roll_frame.specs.Timeline.{Player}
use Rattle.roll_frame.specs.declared.settings.Settings.{Settings}
use Rattle.roll_laws.specs.Grafted.{NewPathsRun, kept_end, possible_end, possible_rows}
use Rattle.roll_laws.proofs.Counting.{filter_skips, filter_takes}
use Rattle.roll_laws.proofs.KeptPaths.{live, live_kept}
use Rattle.roll_laws.proofs.Saved.{In, has_in, in_has, longest_at_least, longest_is}
use Rattle.roll_laws.proofs.Sound.{Sound, possible_take, sound_played}

-- a test of one path
one_in : (f : Rows → Bool) (p : Rows) → f p ≡ true → filter f (p ∷ []) ≡ p ∷ []
one_in f p e = filter_takes f p [] e

none_in : (f : Rows → Bool) (p : Rows) → f p ≡ false → filter f (p ∷ []) ≡ []
none_in f p e = filter_skips f p [] e

-- of the prefixes longer than a, those from l to p pass the test
abbrev Runs : (Rows → Bool) → Rows → ℕ → ℕ → Type 0
Runs f q a n =
    (l p : ℕ) → a ≤ l → l ≤ p → p ≤ a + n
    → ((k : ℕ) → a < k → k ≤ l → f (take k q) ≡ false) → ((k : ℕ) → l < k → k ≤ p → f (take k q) ≡ true) → ((k : ℕ) → p < k → k ≤ a + n → f (take k q) ≡ false)
    → filter f (prefixes q a n) ≡ prefixes q l (p - l)

runs_more : (f : Rows → Bool) (q : Rows) (a n : ℕ) → Runs f q a n → Runs f q a (suc n)
runs_more f q a n runs l p h i j low mid high = filter-append f (prefixes q a n) (take (a + suc n) q ∷ []) ∙ go (cases_lt p (a + suc n)) (cases_lt l (a + suc n))
  where
    go : (p < a + suc n) ⊎ (a + suc n ≤ p) → (l < a + suc n) ⊎ (a + suc n ≤ l) → filter f (prefixes q a n) ++ filter f (take (a + suc n) q ∷ []) ≡ prefixes q l (p - l)
    go (inl b) c =
        rw (none_in f (take (a + suc n) q) (high (a + suc n) b (omega arith)))
        (append-nil (filter f (prefixes q a n)) ∙ runs l p h i (omega arith) low mid (λ k x y. high k x (omega arith)))
    go (inr b) (inl c) =
        let top : p ≡ a + suc n = omega arith in
        let more : p - l ≡ suc (a + n - l) = omega arith in
        let last : l + suc (a + n - l) ≡ a + suc n = omega arith in
        let rest = runs l (a + n) h (omega arith) (omega arith) low (λ k x y. mid k x (omega arith)) (λ k x y. absurd (omega arith)) in
        rw (one_in f (take (a + suc n) q) (mid (a + suc n) c (omega arith)), rest, more, last) refl
    go (inr b) (inr c) =
        let none : p - l ≡ 0 = omega arith in
        let none_too : a + n - (a + n) ≡ 0 = omega arith in
        let rest = runs (a + n) (a + n) (omega arith) (omega arith) (omega arith) (λ k x y. low k x (omega arith)) (λ k x y. absurd (omega arith)) (λ k x y. absurd (omega arith)) in
        rw (none_in f (take (a + suc n) q) (low (a + suc n) (omega arith) c), rest, none, none_too) refl

pub filter_run : (f : Rows → Bool) (q : Rows) (a n : ℕ) → Runs f q a n
filter_run f q a zero = λ l p h i j low mid high. let none : p - l ≡ 0 = omega arith in rw none refl
filter_run f q a (suc n) = runs_more f q a n (filter_run f q a n)

-- the beginnings of rows that are possible are those no longer than the first rows that are
pub possible_at : (t : ℕ) (ps : List Player) (q : Rows) (k : ℕ) → k ≤ possible_rows t ps q → possible_from t ps (take k q) ≡ true
possible_at t ps q zero h = refl
possible_at t ps [] (suc k) h = refl
possible_at t ps (row ∷ rows) (suc k) h = go (row_possible t ps row) refl h (possible_at (suc t) ps rows k)
  where
    go : (b : Bool) → row_possible t ps row ≡ b → suc k ≤ possible_rows t ps (row ∷ rows) → (k ≤ possible_rows (suc t) ps rows → possible_from (suc t) ps (take k rows) ≡ true) → possible_from t ps (row ∷ take k rows) ≡ true
    go true e h rest = rw e (rest (let j = rw e at h in omega arith))
    go false e h rest = absurd (let j = rw e at h in omega arith)

pub possible_below : (t : ℕ) (ps : List Player) (q : Rows) (k : ℕ) → k ≤ length q → possible_from t ps (take k q) ≡ true → k ≤ possible_rows t ps q
possible_below t ps q zero l h = omega arith
possible_below t ps [] (suc k) l h = absurd (omega arith)
possible_below t ps (row ∷ rows) (suc k) l h = go (row_possible t ps row) refl h (possible_below (suc t) ps rows k (omega arith))
  where
    go : (b : Bool) → row_possible t ps row ≡ b → possible_from t ps (row ∷ take k rows) ≡ true → (possible_from (suc t) ps (take k rows) ≡ true → k ≤ possible_rows (suc t) ps rows) → suc k ≤ possible_rows t ps (row ∷ rows)
    go true e h rest = rw e (let j = rest (rw e at h) in omega arith)
    go false e h rest = absurd (false≢true (rw e at h))

pub possible_few : (t : ℕ) (ps : List Player) (q : Rows) → possible_rows t ps q ≤ length q
possible_few t ps [] = omega arith
possible_few t ps (row ∷ rows) = go (row_possible t ps row) refl (possible_few (suc t) ps rows)
  where
    go : (b : Bool) → row_possible t ps row ≡ b → possible_rows (suc t) ps rows ≤ length rows → possible_rows t ps (row ∷ rows) ≤ suc (length rows)
    go true e h = rw e (omega arith)
    go false e h = rw e (omega arith)

-- a kept beginning of rows, and those between it and the settled frame
pub kept_between : (settings : Settings) (core : Core) (q : Rows) (n k : ℕ) → Sound settings core → contains (kept core) (take n q) ≡ true → k ≤ n → settled core ≤ k → k ≤ length q → contains (kept core) (take k q) ≡ true
kept_between settings core q n k s h l low few =
    let w = live core (take n q) h in
    let is : take k (take n q) ≡ take k q = take-take k n q l in
    live_kept core (take k q) (subst (λ (r : Rows). In r core.ever) is (s.closed (take n q) w.0 k)) (omega (arith, length-take k q))
    (subst (λ (r : Rows). is_possible core.players r ≡ true) is (possible_take k core.players (take n q) w.2))

-- the longest kept beginning is kept where any is
pub longest_kept : (core : Core) (q p : Rows) → contains (kept core) p ≡ true → begins_with q p ≡ true → contains (kept core) (take (longest (kept core) q) q) ≡ true
longest_kept core q p h b = go (longest_is (kept core) q) (longest_at_least (kept core) q p (has_in (kept core) p h) b)
  where
    go : (longest (kept core) q ≡ 0) ⊎ (In (take (longest (kept core) q) q) (kept core) × (longest (kept core) q ≤ length q)) → length p ≤ longest (kept core) q → contains (kept core) (take (longest (kept core) q) q) ≡ true
    go (inl e) l = let none : length p ≡ longest (kept core) q = omega arith in subst (λ n. contains (kept core) (take n q) ≡ true) none (subst (λ (r : Rows). contains (kept core) r ≡ true) (begins_is q p b) h)
    go (inr h) l = in_has (kept core) (take (longest (kept core) q) q) h.0

pub take_begins : (q : Rows) (k : ℕ) → k ≤ length q → begins_with q (take k q) ≡ true
take_begins q k l = let long : length (take k q) ≡ k = omega (arith, length-take k q) in begins q (take k q) (ap (λ n. take n q) (sym long))

and_not : (x y : Bool) → y ≡ true → (x && not y) ≡ false
and_not true y e = rw e refl
and_not false y e = refl

and_none : (x y : Bool) → x ≡ true → y ≡ false → (x && not y) ≡ true
and_none x y e g = rw (e, g) refl

not_and : (x y : Bool) → x ≡ false → (x && y) ≡ false
not_and x y e = rw e refl

pub new_paths_are : (settings : Settings) (core : Core) (branch : Branch) → Sound settings core → contains (kept core) (anchor core branch) ≡ true
    → new_paths core branch ≡ prefixes (whole_of core branch) (kept_end core branch) (possible_end core branch - kept_end core branch)
new_paths_are settings core branch s h =
    filter_run (λ path. is_possible core.players path && not (contains (kept core) path)) w a (length w - a) l p low mid (omega (arith, few, within)) before between past
  where
    w : Rows
    w = whole_of core branch

    a : ℕ
    a = anchor_length core branch

    l : ℕ
    l = kept_end core branch

    p : ℕ
    p = possible_end core branch

    within : a ≤ length w
    within = omega (arith, length-append (start_of core branch) branch.rows, (live core (take a w) h).1, length-take a w)

    few : p ≤ length w
    few = possible_few 0 core.players w

    low : a ≤ l
    low = omega (arith, longest_at_least (kept core) w (take a w) (has_in (kept core) (take a w) h) (take_begins w a within), length-take a w, within)

    there : contains (kept core) (take l w) ≡ true
    there = longest_kept core w (take a w) h (take_begins w a within)

    mid : l ≤ p
    mid = possible_below 0 core.players w l (longest_within (kept core) w) ((live core (take l w) there).2)

    before : (k : ℕ) → a < k → k ≤ l → (is_possible core.players (take k w) && not (contains (kept core) (take k w))) ≡ false
    before k i j = and_not (is_possible core.players (take k w)) (contains (kept core) (take k w)) (kept_between settings core w l k s there j (omega (arith, i)) (omega (arith, longest_within (kept core) w)))

    between : (k : ℕ) → l < k → k ≤ p → (is_possible core.players (take k w) && not (contains (kept core) (take k w))) ≡ true
    between k i j = and_none (is_possible core.players (take k w)) (contains (kept core) (take k w)) (possible_at 0 core.players w k j)
        (false_from_ne_true (contains (kept core) (take k w)) (λ e. omega (arith, longest_at_least (kept core) w (take k w) (has_in (kept core) (take k w) e) (take_begins w k (omega (arith, few))), length-take k w, few)))

    past : (k : ℕ) → p < k → k ≤ a + (length w - a) → (is_possible core.players (take k w) && not (contains (kept core) (take k w))) ≡ false
    past k i j = not_and (is_possible core.players (take k w)) (not (contains (kept core) (take k w))) (false_from_ne_true (is_possible core.players (take k w)) (λ e. omega (arith, possible_below 0 core.players w k (omega (arith, within)) e)))

pub new_paths_run : NewPathsRun
new_paths_run settings game events ok branch h = new_paths_are settings _ branch (sound_played settings game events ok) h
