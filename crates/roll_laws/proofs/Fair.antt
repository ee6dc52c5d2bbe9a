-- The claim of every roll is right.
use Rattle.std.proofs.Common.{◌≡◌, ℕ, zero, suc, ◌+◌, ◌-◌, ◌<◌, ◌≤◌, List, [], ◌∷◌, length, take, drop, refl, ap, sym, ◌∙◌, Bool, true, false, arith, inl, inr, Some, None, subst, cond, map, length-take, length-drop}
use Rattle.std.specs.Prelude.{Option, ◌⊎◌, ◌≢◌, slice_get, All, IsSomeAnd, nat_eq, ◌&&◌, count_by, nat_lt, nat_le}
use Rattle.std.specs.List.{AllByRecursion, cons_option, list_any}
use Rattle.std.specs.Ordering.{is_lt}
use Rattle.std.proofs.lemmas.Bool.{false≢true, cases_Bool, cases_lt, or_left, or_right, and_from, and_parts, leb-true, ltb-true, lt-ltb, le-leb, eq-eqb, ne_eqb}
use Rattle.std.proofs.lemmas.List.Elements.{All-from_recursion}
use Rattle.roll_frame.specs.Cells.{cell_eq, Rows}
use Rattle.roll_frame.specs.Impls.Equal.{cell_eq-Decides}
use Rattle.roll_frame.specs.declared.claim.Differ.{Differ}
use Rattle.roll_frame.specs.Claims.{IsDeeper, IsTrueEntry, IsRight, AreRowsOf, is_for, cell_in, cell_of_row, place_of, least_place, is_passed, is_start, differ_of, differs_from, path_from, claim_of, target_of}
use Rattle.roll_frame.specs.Core.{Roll, end_of}
use Rattle.roll_frame.specs.Order.{frames_of, rows_cmp, placed, in_order}
use Rattle.roll_frame.specs.Paths.{begins_with}
use Rattle.roll_frame.specs.declared.limits.TheConstants.{PATH_LIMIT}
use Rattle.roll_frame.specs.declared.path.Path.{Path}
use Rattle.roll_frame.specs.declared.row.Cell.{Cell}
use Rattle.roll_frame.proofs.Beginnings.{begins}
use Rattle.roll_laws.specs.Laws.{IsLeastEntry}
use Rattle.std.proofs.lemmas.List.Sums.{sum_by-cons}
use Rattle.std.proofs.lemmas.List.{drop-take}
use Rattle.roll_laws.proofs.Saved.{In}
use Rattle.roll_laws.proofs.Right.{get_take, count_skips}

abbrev pub Wide : ℕ → Rows → Type 0
Wide n rows = AllByRecursion (λ row. length row ≡ n) rows

pub record IsFair (n : ℕ) (roll : Roll) : Type 0 where
  pub some : 1 ≤ n
  pub few : n ≤ 8
  pub low : roll.settled ≤ roll.from
  pub top : roll.from ≤ end_of roll
  pub lag : end_of roll ≤ roll.settled + PATH_LIMIT
  pub base : roll.settled ≤ 1048576
  pub rows : Wide n roll.time
  pub start : In (take roll.from roll.time) roll.kept
  pub kept_rows : (q : Rows) → In q roll.kept → Wide n q
  pub kept_low : (q : Rows) → In q roll.kept → roll.settled ≤ length q
  pub kept_settled : (q : Rows) → In q roll.kept → take roll.settled q ≡ take roll.settled roll.time
  pub kept_off : (q : Rows) → In q roll.kept → roll.from < length q → length q ≤ end_of roll → begins_with roll.time q ≡ false

-- two rows are one, or differ at a first place
record Apart (n : ℕ) (cs ds : List Cell) (p : ℕ) : Type 0 where
  is : place_of cs ds ≡ Some (suc p)
  within : p < n
  differs : slice_get cs p ≢ slice_get ds p
  before : (i : ℕ) → i < p → slice_get cs i ≡ slice_get ds i

-- one more element in front
more_before : {X : Type 0} (x y : X) (xs ys : List X) (p : ℕ) → x ≡ y → ((i : ℕ) → i < p → slice_get xs i ≡ slice_get ys i) → (i : ℕ) → i < suc p → slice_get (x ∷ xs) i ≡ slice_get (y ∷ ys) i
more_before x y xs ys p e b zero l = ap Some e
more_before x y xs ys p e b (suc i) l = b i (omega arith)

rows_apart : (n : ℕ) (cs ds : List Cell) → length cs ≡ n → length ds ≡ n → ((place_of cs ds ≡ None) × (cs ≡ ds)) ⊎ ((p : ℕ) × Apart n cs ds p)
rows_apart n [] [] e f = inl (refl, refl)
rows_apart n [] (d ∷ ds) e f = absurd (omega arith)
rows_apart n (c ∷ cs) [] e f = absurd (omega arith)
rows_apart zero (c ∷ cs) (d ∷ ds) e f = absurd (omega arith)
rows_apart (suc n) (c ∷ cs) (d ∷ ds) e f = go (cases_Bool (cell_eq c d)) (rows_apart n cs ds (omega arith) (omega arith))
  where
    go : (cell_eq c d ≡ true) ⊎ (cell_eq c d ≡ false) → ((place_of cs ds ≡ None) × (cs ≡ ds)) ⊎ ((p : ℕ) × Apart n cs ds p) → ((place_of (c ∷ cs) (d ∷ ds) ≡ None) × ((c ∷ cs) ≡ (d ∷ ds))) ⊎ ((p : ℕ) × Apart (suc n) (c ∷ cs) (d ∷ ds) p)
    go (inr k) r = inr (0, record { is = rw k refl; within = omega arith; differs = λ s. false≢true (sym k ∙ (cell_eq-Decides c d).1 (one c d s)); before = λ i l. absurd (omega arith) })
      where
        one : (x y : Cell) → Some x ≡ Some y → x ≡ y
        one x y s = cc
    go (inl k) (inl r) = inl (rw (k, r.0) refl, cc ((cell_eq-Decides c d).0 k, r.1))
    go (inl k) (inr r) = inr (suc r.0, record { is = rw (k, r.1.is) refl; within = omega (arith, r.1.within); differs = r.1.differs; before = more_before c d cs ds r.0 ((cell_eq-Decides c d).0 k) r.1.before })

-- a path is the time's as far as it goes, or differs at a first frame and place
pub record Off (t n : ℕ) (q time : Rows) (f p : ℕ) : Type 0 where
  pub is : least_place t q time ≡ Some (t + f, suc p)
  pub frame : f < length q
  pub player : p < n
  pub differs : cell_in q f p ≢ cell_in time f p
  pub before : (i : ℕ) → i < f → slice_get q i ≡ slice_get time i
  pub left : (i : ℕ) → i < p → cell_in q f i ≡ cell_in time f i

pub paths_off : (t n : ℕ) (q time : Rows) → length q ≤ length time → Wide n q → Wide n time → ((least_place t q time ≡ None) × (q ≡ take (length q) time)) ⊎ ((f p : ℕ) × Off t n q time f p)
paths_off t n [] time l w v = inl (refl, refl)
paths_off t n (row ∷ rows) [] l w v = absurd (omega arith)
paths_off t n (row ∷ rows) (other ∷ others) l w v = go (rows_apart n row other w.0 v.0) (paths_off (suc t) n rows others (omega arith) w.1 v.1)
  where
    go : ((place_of row other ≡ None) × (row ≡ other)) ⊎ ((p : ℕ) × Apart n row other p) → ((least_place (suc t) rows others ≡ None) × (rows ≡ take (length rows) others)) ⊎ ((f p : ℕ) × Off (suc t) n rows others f p)
        → ((least_place t (row ∷ rows) (other ∷ others) ≡ None) × ((row ∷ rows) ≡ take (length (row ∷ rows)) (other ∷ others))) ⊎ ((f p : ℕ) × Off t n (row ∷ rows) (other ∷ others) f p)
    go (inr a) r = let here : t ≡ t + 0 = omega arith in inr (0, a.0, record { is = rw a.1.is (ap (λ k. Some (k, suc a.0)) here); frame = omega arith; player = a.1.within; differs = a.1.differs; before = λ i l. absurd (omega arith); left = a.1.before })
    go (inl a) (inl r) = inl (rw (a.0, r.0) refl, cc (a.1, r.1))
    go (inl a) (inr r) = let there : suc t + r.0 ≡ t + suc r.0 = omega arith in inr (suc r.0, r.1, record { is = rw (a.0, r.2.is) (ap (λ k. Some (k, suc r.1)) there); frame = omega (arith, r.2.frame); player = r.2.player; differs = r.2.differs; before = more_before row other rows others r.0 a.1 r.2.before; left = r.2.left })

in_placed : (p q : Rows) (ps : List Rows) → In q (placed p ps) → (q ≡ p) ⊎ In q ps
in_placed p q [] i = i
in_placed p q (x ∷ xs) i = go (cases_Bool (is_lt (rows_cmp p x))) (in_placed p q xs)
  where
    go : (is_lt (rows_cmp p x) ≡ true) ⊎ (is_lt (rows_cmp p x) ≡ false) → (In q (placed p xs) → (q ≡ p) ⊎ In q xs) → (q ≡ p) ⊎ In q (x ∷ xs)
    go (inl e) r = subst (In q) (first e) i
      where
        first : is_lt (rows_cmp p x) ≡ true → placed p (x ∷ xs) ≡ p ∷ x ∷ xs
        first b = rw b refl
    go (inr e) r = at (subst (In q) (later e) i)
      where
        later : is_lt (rows_cmp p x) ≡ false → placed p (x ∷ xs) ≡ x ∷ placed p xs
        later b = rw b refl

        at : (q ≡ x) ⊎ In q (placed p xs) → (q ≡ p) ⊎ In q (x ∷ xs)
        at (inl s) = inr (inl s)
        at (inr j) = deeper (r j)
          where
            deeper : (q ≡ p) ⊎ In q xs → (q ≡ p) ⊎ In q (x ∷ xs)
            deeper (inl s) = inl s
            deeper (inr k) = inr (inr k)

placed_in : (p q : Rows) (ps : List Rows) → (q ≡ p) ⊎ In q ps → In q (placed p ps)
placed_in p q [] i = i
placed_in p q (x ∷ xs) i = go (cases_Bool (is_lt (rows_cmp p x))) i (placed_in p q xs)
  where
    later : is_lt (rows_cmp p x) ≡ false → placed p (x ∷ xs) ≡ x ∷ placed p xs
    later b = rw b refl

    first : is_lt (rows_cmp p x) ≡ true → placed p (x ∷ xs) ≡ p ∷ x ∷ xs
    first b = rw b refl

    go : (is_lt (rows_cmp p x) ≡ true) ⊎ (is_lt (rows_cmp p x) ≡ false) → (q ≡ p) ⊎ In q (x ∷ xs) → ((q ≡ p) ⊎ In q xs → In q (placed p xs)) → In q (placed p (x ∷ xs))
    go (inl e) j r = subst (In q) (sym (first e)) j
    go (inr e) (inl s) r = subst (In q) (sym (later e)) (inr (r (inl s)))
    go (inr e) (inr (inl s)) r = subst (In q) (sym (later e)) (inl s)
    go (inr e) (inr (inr k)) r = subst (In q) (sym (later e)) (inr (r (inr k)))

pub in_ordered : (q : Rows) (ps : List Rows) → In q (in_order ps) → In q ps
in_ordered q [] i = i
in_ordered q (p ∷ ps) i = go (in_placed p q (in_order ps) i) (in_ordered q ps)
  where
    go : (q ≡ p) ⊎ In q (in_order ps) → (In q (in_order ps) → In q ps) → In q (p ∷ ps)
    go (inl s) r = inl s
    go (inr j) r = inr (r j)

pub ordered_in : (q : Rows) (ps : List Rows) → In q ps → In q (in_order ps)
ordered_in q [] i = i
ordered_in q (p ∷ ps) (inl s) = placed_in p q (in_order ps) (inl s)
ordered_in q (p ∷ ps) (inr j) = placed_in p q (in_order ps) (inr (ordered_in q ps j))

get_drop : (k i : ℕ) (rows : Rows) → slice_get (drop k rows) i ≡ slice_get rows (k + i)
get_drop zero i rows = ap (slice_get rows) (omega arith)
get_drop (suc k) i [] = refl
get_drop (suc k) i (row ∷ rows) = let e : suc k + i ≡ suc (k + i) = omega arith in get_drop k i rows ∙ ap (slice_get (row ∷ rows)) (sym e)

cell_in_drop : (k f p : ℕ) (rows : Rows) → k ≤ f → cell_in (drop k rows) (f - k) p ≡ cell_in rows f p
cell_in_drop k f p rows l =
    let e : k + (f - k) ≡ f = omega arith in
    ap (λ o. cell_of_row o p) (get_drop k (f - k) rows ∙ ap (slice_get rows) e)

not_settled : (t n k : ℕ) (q time : Rows) (f p : ℕ) → Off t n q time f p → take k q ≡ take k time → k ≤ f
not_settled t n k q time f p o e = go (cases_lt f k)
  where
    go : (f < k) ⊎ (k ≤ f) → k ≤ f
    go (inr l) = l
    go (inl l) = absurd (o.differs (ap (λ r. cell_of_row r p) (sym (get_take q k f l) ∙ ap (λ (r : Rows). slice_get r f) e ∙ get_take time k f l)))

abbrev entry_at : ℕ → ℕ → ℕ → Differ
entry_at s f p = record { state = s; frame = f; player = suc p }

module _ (n : ℕ) (roll : Roll) (fair : IsFair n roll) where
  deeper_parts : (q : Rows) → is_passed roll q ≡ true → (roll.from < length q) × (length q ≤ end_of roll)
  deeper_parts q e =
      let b = and_parts (nat_lt roll.from (length q)) (nat_le (length q) (end_of roll)) e in
      (ltb-true roll.from (length q) b.0, leb-true (length q) (end_of roll) b.1)

  entry_none : (s : ℕ) (q : Rows) → is_passed roll q ≡ false → differ_of roll s q ≡ None
  entry_none s q e = rw e refl

  entry_some : (s : ℕ) (q : Rows) (f p : ℕ) → is_passed roll q ≡ true → least_place 0 q roll.time ≡ Some (0 + f, suc p) → differ_of roll s q ≡ Some (entry_at s f p)
  entry_some s q f p e is = let z : 0 + f ≡ f = omega arith in rw (e, is) (ap (λ k. Some (entry_at s k p)) z)

  off : (q : Rows) → In q roll.kept → is_passed roll q ≡ true → (f p : ℕ) × Off 0 n q roll.time f p
  off q i e =
      let d = deeper_parts q e in
      go d (paths_off 0 n q roll.time (omega (arith, d.1)) (fair.kept_rows q i) fair.rows)
    where
      go : (roll.from < length q) × (length q ≤ end_of roll) → ((least_place 0 q roll.time ≡ None) × (q ≡ take (length q) roll.time)) ⊎ ((f p : ℕ) × Off 0 n q roll.time f p) → (f p : ℕ) × Off 0 n q roll.time f p
      go d (inr o) = o
      go d (inl o) = absurd (false≢true (sym (fair.kept_off q i d.0 d.1) ∙ begins roll.time q o.1))

  true_entry : (s : ℕ) (q : Rows) (f p : ℕ) → In q roll.kept → is_passed roll q ≡ true → Off 0 n q roll.time f p → IsTrueEntry (claim_of n roll) (entry_at s f p) (path_from roll.settled q)
  true_entry s q f p i e o =
      let d = deeper_parts q e in
      let l : roll.settled ≤ length q = fair.kept_low q i in
      let long : length (drop roll.settled q) ≡ length q - roll.settled = length-drop roll.settled q in
      let rest : length (drop roll.settled roll.time) ≡ length roll.time - roll.settled = length-drop roll.settled roll.time in
      let past : roll.settled ≤ f = not_settled 0 n roll.settled q roll.time f p o (fair.kept_settled q i) in
      let place : suc p - 1 ≡ p = omega arith in
      record {
        on_path = record {
          deeper = (omega (arith, d.0), omega (arith, d.1, fair.low, fair.top));
          from = past;
          below = omega (arith, o.frame);
          first = omega arith;
          last = omega (arith, o.player);
        };
        differs = λ same. o.differs (sym (cell_in_drop roll.settled f p q past) ∙ subst (λ (k : ℕ). cell_in (drop roll.settled q) (f - roll.settled) k ≡ cell_in (drop roll.settled roll.time) (f - roll.settled) k) place same ∙ cell_in_drop roll.settled f p roll.time past);
      }

  least_entry : (s : ℕ) (q : Rows) (f p : ℕ) → In q roll.kept → is_passed roll q ≡ true → Off 0 n q roll.time f p → IsLeastEntry (claim_of n roll) (entry_at s f p) (path_from roll.settled q)
  least_entry s q f p i e o frame player past first before =
      cell_in_drop roll.settled frame (player - 1) q past ∙ same before ∙ sym (cell_in_drop roll.settled frame (player - 1) roll.time past)
    where
      same : (frame < f) ⊎ ((frame ≡ f) × (player < suc p)) → cell_in q frame (player - 1) ≡ cell_in roll.time frame (player - 1)
      same (inl l) = ap (λ row. cell_of_row row (player - 1)) (o.before frame l)
      same (inr h) = subst (λ (k : ℕ). cell_in q k (player - 1) ≡ cell_in roll.time k (player - 1)) (sym h.0) (o.left (player - 1) (omega (arith, h.1)))

get_map : (g : Rows → Path) (ps : List Rows) (i : ℕ) (q : Rows) → slice_get ps i ≡ Some q → slice_get (map g ps) i ≡ Some (g q)
get_map g [] i q e = none q e
  where
    none : (x : Rows) → None ≡ Some x → None ≡ Some (g q)
    none x f = cc
get_map g (p ∷ ps) zero q e = one p q e
  where
    one : (x y : Rows) → Some x ≡ Some y → Some (g x) ≡ Some (g y)
    one x y f = cc
get_map g (p ∷ ps) (suc i) q e = get_map g ps i q e

get_in : (ps : List Rows) (i : ℕ) (q : Rows) → slice_get ps i ≡ Some q → In q ps
get_in [] i q e = absurd (none q e)
  where
    none : (x : Rows) → None ≡ Some x → ⊥
    none x f = cc
get_in (p ∷ ps) zero q e = inl (one p q e)
  where
    one : (x y : Rows) → Some x ≡ Some y → y ≡ x
    one x y f = cc
get_in (p ∷ ps) (suc i) q e = inr (get_in ps i q e)

any_in : (test : Path → Bool) (g : Rows → Path) (ps : List Rows) (q : Rows) → In q ps → test (g q) ≡ true → list_any test (map g ps) ≡ true
any_in test g [] q i h = absurd i
any_in test g (p ∷ ps) q (inl e) h = or_left (test (g p)) (list_any test (map g ps)) (subst (λ (x : Rows). test (g x) ≡ true) e h)
any_in test g (p ∷ ps) q (inr i) h = or_right (test (g p)) (list_any test (map g ps)) (any_in test g ps q i h)

pub wide_drop : (n k : ℕ) (rows : Rows) → Wide n rows → Wide n (drop k rows)
wide_drop n zero rows w = w
wide_drop n (suc k) [] w = tt
wide_drop n (suc k) (row ∷ rows) w = wide_drop n k rows w.1

count_takes : (p : Differ → Bool) (x : Differ) (xs : List Differ) → p x ≡ true → count_by p (x ∷ xs) ≡ suc (count_by p xs)
count_takes p x xs e =
    let one : cond {A = ℕ} (p x) 1 0 ≡ 1 = ap (λ b. cond {A = ℕ} b 1 0) e in
    sum_by-cons (λ y. cond {A = ℕ} (p y) 1 0) x xs ∙ ap (λ k. k + count_by p xs) one ∙ omega arith

module _ (n : ℕ) (roll : Roll) (fair : IsFair n roll) where
  entries_skip : (s : ℕ) (q : Rows) (qs : List Rows) → is_passed roll q ≡ false → differs_from roll s (q ∷ qs) ≡ differs_from roll (suc s) qs
  entries_skip s q qs e = ap (λ o. cons_option o (differs_from roll (suc s) qs)) (entry_none n roll fair s q e)

  entries_take : (s : ℕ) (q : Rows) (qs : List Rows) (f p : ℕ) → is_passed roll q ≡ true → Off 0 n q roll.time f p → differs_from roll s (q ∷ qs) ≡ entry_at s f p ∷ differs_from roll (suc s) qs
  entries_take s q qs f p e o = ap (λ r. cons_option r (differs_from roll (suc s) qs)) (entry_some n roll fair s q f p e o.is)

  -- what holds of each entry that can be made and of its path, holds of the entries of paths that are
  -- at their places, from s on
  entries_each : (P : Differ → Path → Type 0) → ((s : ℕ) (q : Rows) (f p : ℕ) → In q roll.kept → is_passed roll q ≡ true → Off 0 n q roll.time f p → P (entry_at s f p) (path_from roll.settled q))
      → (ps : List Rows) (s : ℕ) → ((i : ℕ) (q : Rows) → slice_get ps i ≡ Some q → slice_get (in_order roll.kept) (s + i) ≡ Some q) → ((q : Rows) → In q ps → In q roll.kept)
      → AllByRecursion (λ entry. IsSomeAnd (slice_get (claim_of n roll).kept entry.state) (P entry)) (differs_from roll s ps)
  entries_each P holds [] s at all = tt
  entries_each P holds (q ∷ qs) s at all = go (cases_Bool (is_passed roll q)) (entries_each P holds qs (suc s) (λ i p e. let k : s + suc i ≡ suc s + i = omega arith in subst (λ (j : ℕ). slice_get (in_order roll.kept) j ≡ Some p) k (at (suc i) p e)) (λ p i. all p (inr i)))
    where
      go : (is_passed roll q ≡ true) ⊎ (is_passed roll q ≡ false) → AllByRecursion (λ entry. IsSomeAnd (slice_get (claim_of n roll).kept entry.state) (P entry)) (differs_from roll (suc s) qs) → AllByRecursion (λ entry. IsSomeAnd (slice_get (claim_of n roll).kept entry.state) (P entry)) (differs_from roll s (q ∷ qs))
      go (inr e) r = subst (AllByRecursion (λ entry. IsSomeAnd (slice_get (claim_of n roll).kept entry.state) (P entry))) (sym (entries_skip s q qs e)) r
      go (inl e) r =
          let o = off n roll fair q (all q (inl refl)) e in
          let k : s + 0 ≡ s = omega arith in
          let named = get_map (path_from roll.settled) (in_order roll.kept) s q (subst (λ (j : ℕ). slice_get (in_order roll.kept) j ≡ Some q) k (at 0 q refl)) in
          subst (AllByRecursion (λ entry. IsSomeAnd (slice_get (claim_of n roll).kept entry.state) (P entry))) (sym (entries_take s q qs o.0 o.1 e o.2))
          (subst (λ (path : Option Path). IsSomeAnd path (P (entry_at s o.0 o.1))) (sym named) (holds s q o.0 o.1 (all q (inl refl)) e o.2), r)

  -- of all entries of the claim
  pub claim_entries : (P : Differ → Path → Type 0) → ((s : ℕ) (q : Rows) (f p : ℕ) → In q roll.kept → is_passed roll q ≡ true → Off 0 n q roll.time f p → P (entry_at s f p) (path_from roll.settled q))
      → All (λ entry. IsSomeAnd (slice_get (claim_of n roll).kept entry.state) (P entry)) (claim_of n roll).differs
  claim_entries P holds =
      All-from_recursion (λ entry. IsSomeAnd (slice_get (claim_of n roll).kept entry.state) (P entry)) (differs_from roll 0 (in_order roll.kept))
      (entries_each P holds (in_order roll.kept) 0 (λ i p e. let k : i ≡ 0 + i = omega arith in subst (λ (j : ℕ). slice_get (in_order roll.kept) j ≡ Some p) k e) (λ p i. in_ordered p roll.kept i))

  none_named : (ps : List Rows) (s place : ℕ) → place < s → ((q : Rows) → In q ps → In q roll.kept) → count_by (is_for place) (differs_from roll s ps) ≡ 0
  none_named [] s place l all = refl
  none_named (q ∷ qs) s place l all = go (cases_Bool (is_passed roll q)) (none_named qs (suc s) place (omega arith) (λ p i. all p (inr i)))
    where
      go : (is_passed roll q ≡ true) ⊎ (is_passed roll q ≡ false) → count_by (is_for place) (differs_from roll (suc s) qs) ≡ 0 → count_by (is_for place) (differs_from roll s (q ∷ qs)) ≡ 0
      go (inr e) r = ap (count_by (is_for place)) (entries_skip s q qs e) ∙ r
      go (inl e) r =
          let o = off n roll fair q (all q (inl refl)) e in
          ap (count_by (is_for place)) (entries_take s q qs o.0 o.1 e o.2)
          ∙ count_skips (is_for place) (entry_at s o.0 o.1) (differs_from roll (suc s) qs) (ne_eqb s place (λ f. absurd (omega arith))) ∙ r

  one_named : (ps : List Rows) (s i place : ℕ) (q : Rows) → place ≡ s + i → slice_get ps i ≡ Some q → is_passed roll q ≡ true → ((p : Rows) → In p ps → In p roll.kept) → count_by (is_for place) (differs_from roll s ps) ≡ 1
  one_named [] s i place q k e d all = absurd (none q e)
    where
      none : (x : Rows) → None ≡ Some x → ⊥
      none x f = cc
  one_named (p ∷ ps) s zero place q k e d all =
      let same : q ≡ p = one p q e in
      let deep : is_passed roll p ≡ true = subst (λ (x : Rows). is_passed roll x ≡ true) same d in
      let o = off n roll fair p (all p (inl refl)) deep in
      ap (count_by (is_for place)) (entries_take s p ps o.0 o.1 deep o.2)
      ∙ count_takes (is_for place) (entry_at s o.0 o.1) (differs_from roll (suc s) ps) (eq-eqb s place (omega arith))
      ∙ ap suc (none_named ps (suc s) place (omega arith) (λ x i. all x (inr i)))
    where
      one : (x y : Rows) → Some x ≡ Some y → y ≡ x
      one x y f = cc
  one_named (p ∷ ps) s (suc i) place q k e d all = go (cases_Bool (is_passed roll p)) (one_named ps (suc s) i place q (omega arith) e d (λ x j. all x (inr j)))
    where
      go : (is_passed roll p ≡ true) ⊎ (is_passed roll p ≡ false) → count_by (is_for place) (differs_from roll (suc s) ps) ≡ 1 → count_by (is_for place) (differs_from roll s (p ∷ ps)) ≡ 1
      go (inr b) r = ap (count_by (is_for place)) (entries_skip s p ps b) ∙ r
      go (inl b) r =
          let o = off n roll fair p (all p (inl refl)) b in
          ap (count_by (is_for place)) (entries_take s p ps o.0 o.1 b o.2)
          ∙ count_skips (is_for place) (entry_at s o.0 o.1) (differs_from roll (suc s) ps) (ne_eqb s place (λ f. absurd (omega arith))) ∙ r

  kept_shape : (ps : List Rows) → ((p : Rows) → In p ps → In p roll.kept) → AllByRecursion (λ path. (path.base ≡ roll.settled) × AreRowsOf n path.rows.items) (map (path_from roll.settled) ps)
  kept_shape [] all = tt
  kept_shape (p ∷ ps) all = ((refl, All-from_recursion (λ row. length row ≡ n) (drop roll.settled p) (wide_drop n roll.settled p (fair.kept_rows p (all p (inl refl))))), kept_shape ps (λ x i. all x (inr i)))

  -- each kept path at a place of the claim is an ordered one
  unmapped : (ps : List Rows) (place : ℕ) (path : Path) → slice_get (map (path_from roll.settled) ps) place ≡ Some path → (q : Rows) × (slice_get ps place ≡ Some q) × (path ≡ path_from roll.settled q)
  unmapped [] place path e = absurd (none path e)
    where
      none : (x : Path) → None ≡ Some x → ⊥
      none x f = cc
  unmapped (p ∷ ps) zero path e = (p, refl, one (path_from roll.settled p) path e)
    where
      one : (x y : Path) → Some x ≡ Some y → y ≡ x
      one x y f = cc
  unmapped (p ∷ ps) (suc place) path e = unmapped ps place path e

  pub fair_is_right : IsRight (claim_of n roll)
  fair_is_right =
      let time_long : length (drop roll.settled roll.time) ≡ length roll.time - roll.settled = length-drop roll.settled roll.time in
      let q : Rows = take roll.from roll.time in
      let q_long : length q ≡ roll.from = omega (arith, length-take roll.from roll.time, fair.top) in
      let past : roll.settled + (roll.from - roll.settled) ≡ roll.from = omega (arith, fair.low) in
      let cut : drop roll.settled q ≡ take (roll.from - roll.settled) (drop roll.settled roll.time) = ap (λ j. drop roll.settled (take j roll.time)) (sym past) ∙ drop-take roll.settled (roll.from - roll.settled) roll.time in
      let own_long : length (drop roll.settled q) ≡ roll.from - roll.settled = omega (arith, length-drop roll.settled q) in
      record {
        shape = record {
          base = fair.base;
          some = fair.some;
          few = fair.few;
          short = omega (arith, fair.lag);
          time = All-from_recursion (λ row. length row ≡ n) (drop roll.settled roll.time) (wide_drop n roll.settled roll.time fair.rows);
          kept = All-from_recursion (λ path. (path.base ≡ roll.settled) × AreRowsOf n path.rows.items) (map (path_from roll.settled) (in_order roll.kept)) (kept_shape (in_order roll.kept) (λ p i. in_ordered p roll.kept i));
        };
        start = any_in (is_start (claim_of n roll)) (path_from roll.settled) (in_order roll.kept) q (ordered_in q roll.kept fair.start)
            (and_from (nat_eq (frames_of (path_from roll.settled q)) roll.from && nat_le roll.from (target_of (claim_of n roll))) (begins_with (drop roll.settled roll.time) (drop roll.settled q))
            (and_from (nat_eq (frames_of (path_from roll.settled q)) roll.from) (nat_le roll.from (target_of (claim_of n roll)))
            (eq-eqb (frames_of (path_from roll.settled q)) roll.from (omega (arith, fair.low))) (le-leb roll.from (target_of (claim_of n roll)) (omega (arith, fair.top, fair.low))))
            (begins (drop roll.settled roll.time) (drop roll.settled q) (cut ∙ ap (λ j. take j (drop roll.settled roll.time)) (sym own_long))));
        entries = claim_entries (IsTrueEntry (claim_of n roll)) (true_entry n roll fair);
        once = λ place path e deeper.
            let u = unmapped (in_order roll.kept) place path e in
            let i = in_ordered u.0 roll.kept (get_in (in_order roll.kept) place u.0 u.1) in
            let long : length (drop roll.settled u.0) ≡ length u.0 - roll.settled = length-drop roll.settled u.0 in
            let deep : IsDeeper (claim_of n roll) (path_from roll.settled u.0) = subst (IsDeeper (claim_of n roll)) u.2 deeper in
            let a : roll.from < roll.settled + length (drop roll.settled u.0) = deep.0 in
            let b : roll.settled + length (drop roll.settled u.0) ≤ roll.settled + length (drop roll.settled roll.time) = deep.1 in
            let low : roll.settled ≤ length u.0 = fair.kept_low u.0 i in
            one_named (in_order roll.kept) 0 place place u.0 (omega arith) u.1
            (and_from (nat_lt roll.from (length u.0)) (nat_le (length u.0) (end_of roll)) (lt-ltb roll.from (length u.0) (omega arith)) (le-leb (length u.0) (end_of roll) (omega (arith, fair.low, fair.top))))
            (λ p j. in_ordered p roll.kept j);
      }

  pub fair_is_least : All (λ entry. IsSomeAnd (slice_get (claim_of n roll).kept entry.state) (IsLeastEntry (claim_of n roll) entry)) (claim_of n roll).differs
  fair_is_least = claim_entries (IsLeastEntry (claim_of n roll)) (least_entry n roll fair)
