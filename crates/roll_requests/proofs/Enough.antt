-- When slots are enough.
use Rattle.std.proofs.Common.{◌≡◌, ℕ, zero, suc, ◌+◌, ◌<◌, ◌≤◌, List, [], ◌∷◌, ◌++◌, length, refl, ap, sym, subst, ◌∙◌, arith, Bool, true, false, cond, inl, inr}
use Rattle.std.specs.Prelude.{◌||◌, ◌==◌, filter, not, sum_by}
use Rattle.std.specs.List.{list_any, range_with_len}
use Rattle.std.proofs.lemmas.Bool.{cases_eq, eq-eqb, ne_eqb}
use Rattle.std.proofs.lemmas.List.{length-map, nil_from_length}
use Rattle.std.proofs.lemmas.List.Sums.{sum_by-cons}
use Rattle.slab.specs.Slab.{Slab, entries, slab_len}
use Rattle.slab.proofs.SlabLemmas.{length-entries}
use Rattle.roll_frame.specs.Cells.{Rows}
use Rattle.roll_frame.specs.Core.{Core, cost, kept}
use Rattle.roll_frame.specs.Events.{played}
use Rattle.roll_frame.specs.Games.{Game}
use Rattle.roll_laws.proofs.Glue.{log_played}
use Rattle.roll_laws.proofs.Few.{rolls_fit}
use Rattle.roll_frame.specs.Settings.{open_to_branches}
use Rattle.roll_frame.specs.declared.settings.Settings.{Settings}
use Rattle.roll_session.specs.Calls.{IsRollTo}
use Rattle.roll_session.specs.Gameless.{still}
use Rattle.roll_session.specs.Seen.{FollowsLog, game_of}
use Rattle.roll_session.specs.Standing.{from_start, settled_rows}
use Rattle.roll_session.specs.declared.event.Call.{Call}
use Rattle.roll_session.specs.declared.event.Call.TheVariants.{Sync, Advance}
use Rattle.roll_tree.specs.SavedStates.{Saved, paths_of}
use Rattle.roll_requests.specs.Asked.{Asked}
use Rattle.roll_requests.specs.Planned.{LacksSlots}
use Rattle.roll_requests.specs.Slotted.{free_slots, holds, is_among, is_needed, is_out, is_saved, Guessed}
use Rattle.roll_requests.specs.Sufficing.{has_graft, most_slots, slots_of_jobs, HasNoGuesses}
use Rattle.roll_requests.proofs.Filling.{free_alike, or_assoc, or_false, or_true}
use Rattle.roll_requests.proofs.Ungrafted.{few_ungrafted}

same_length : (b : Bool) (a : ℕ) (xs ys : List ℕ) → length xs ≡ length ys → length (cond b (a ∷ xs) xs) ≡ length (cond b (a ∷ ys) ys)
same_length true a xs ys e = ap suc e
same_length false a xs ys e = e

one_more : (b : Bool) (a : ℕ) (xs ys : List ℕ) → length xs ≤ length ys + 1 → length (cond b (a ∷ xs) xs) ≤ length (cond b (a ∷ ys) ys) + 1
one_more true a xs ys h = omega (arith, h)
one_more false a xs ys h = h

one_longer : (b : Bool) (a : ℕ) (xs : List ℕ) → length (cond b (a ∷ xs) xs) ≤ length xs + 1
one_longer true a xs = omega arith
one_longer false a xs = omega arith

-- those of n numbers from a on that a test doesn't find
abbrev left : (ℕ → Bool) → ℕ → ℕ → List ℕ
left test a n = filter (λ k. not (test k)) (range_with_len a n)

-- with one number more in the test, as many, if that lies before them
left_past : (test : ℕ → Bool) (x a n : ℕ) → x < a → length (left (λ k. x == k || test k) a n) ≡ length (left test a n)
left_past test x a zero low = refl
left_past test x a (suc n) low =
    let rest : List ℕ = left (λ k. x == k || test k) (a + 1) n in
    ap (λ b. length (cond (not (b || test a)) (a ∷ rest) rest)) (ne_eqb x a (λ e. omega (arith, e, low)))
    ∙ same_length (not (test a)) a rest (left test (a + 1) n) (left_past test x (a + 1) n (omega (arith, low)))

-- and at most one fewer wherever it lies
left_one : (test : ℕ → Bool) (x a n : ℕ) → length (left test a n) ≤ length (left (λ k. x == k || test k) a n) + 1
left_one test x a zero = omega arith
left_one test x a (suc n) =
    let rest : List ℕ = left (λ k. x == k || test k) (a + 1) n in
    let all : List ℕ = left test (a + 1) n in
    let same : length (left (λ k. x == k || test k) a (suc n)) ≡ length (cond (not (x == a || test a)) (a ∷ rest) rest) = refl in
    elim (cases_eq x a) [
      | inl here ↦
          let gone = ap (λ b. length (cond (not (b || test a)) (a ∷ rest) rest)) (eq-eqb x a here) in
          omega (arith, gone, left_past test x (a + 1) n (omega (arith, here)), one_longer (not (test a)) a all)
      | inr apart ↦
          let stays = ap (λ b. length (cond (not (b || test a)) (a ∷ rest) rest)) (ne_eqb x a apart) in
          omega (arith, stays, one_more (not (test a)) a all rest (left_one test x (a + 1) n))
    ]

none_saved : (a n : ℕ) → length (left (is_saved []) a n) ≡ n
none_saved a zero = refl
none_saved a (suc n) = ap suc (none_saved (a + 1) n)

-- each saved state takes one at most
saved_leave : (states : List (Saved ℕ)) (limit : ℕ) → limit ≤ length (free_slots (is_saved states) limit) + length states
saved_leave [] limit = omega (arith, none_saved 0 limit)
saved_leave (u ∷ us) limit = omega (arith, saved_leave us limit, left_one (is_saved us) u.snapshot 0 limit)

-- each of some slots too
list_leaves : (slots : List ℕ) (test : ℕ → Bool) (limit : ℕ) → length (free_slots test limit) ≤ length (free_slots (λ k. is_among slots k || test k) limit) + length slots
list_leaves [] test limit = omega arith
list_leaves (x ∷ xs) test limit =
    let rest : ℕ → Bool = λ k. is_among xs k || test k in
    let alike = free_alike (λ k. is_among (x ∷ xs) k || test k) (λ k. x == k || rest k) (λ k. or_assoc (x == k) (is_among xs k) (test k)) limit in
    omega (arith, list_leaves xs test limit, left_one rest x 0 limit, ap length alike)

-- and so those of the jobs
jobs_leave : (out : List (ℕ × Guessed)) (test : ℕ → Bool) (limit : ℕ) → length (free_slots test limit) ≤ length (free_slots (λ k. list_any (λ o. holds o.1 k) out || test k) limit) + sum_by (λ o. length o.1.slots + 1) out
jobs_leave [] test limit = omega arith
jobs_leave (o ∷ os) test limit =
    let rest : ℕ → Bool = λ k. list_any (λ (o : ℕ × Guessed). holds o.1 k) os || test k in
    let alike = free_alike (λ k. list_any (λ (o : ℕ × Guessed). holds o.1 k) (o ∷ os) || test k) (λ k. is_among (o.1.start ∷ o.1.slots) k || rest k) (λ k. or_assoc (holds o.1 k) (list_any (λ (o : ℕ × Guessed). holds o.1 k) os) (test k)) limit in
    omega (arith, sum_by-cons (λ (o : ℕ × Guessed). length o.1.slots + 1) o os, jobs_leave os test limit, list_leaves (o.1.start ∷ o.1.slots) rest limit, ap length alike)

or_swap : (a b : Bool) → (a || b) ≡ (b || a)
or_swap true b = or_true b
or_swap false b = or_false b

needed_leave : (states : List (Saved ℕ)) (jobs : Slab Guessed) (limit : ℕ) → limit ≤ length (free_slots (is_needed states jobs) limit) + length states + slots_of_jobs jobs
needed_leave states jobs limit =
    let alike = free_alike (is_needed states jobs) (λ k. is_out jobs k || is_saved states k) (λ k. or_swap (is_saved states k) (is_out jobs k)) limit in
    omega (arith, saved_leave states limit, jobs_leave (entries jobs) (is_saved states) limit, ap length alike)

no_slots : (jobs : Slab Guessed) → slab_len jobs ≡ 0 → slots_of_jobs jobs ≡ 0
no_slots jobs none =
    let empty : entries jobs ≡ [] = nil_from_length (entries jobs) (length-entries jobs ∙ none) in
    ap (sum_by (λ (out : ℕ × Guessed). length out.1.slots + 1)) empty

roll_low : (core : Core) (call : Call) (to : ℕ) → IsRollTo core call to → to ≤ core.frame + 1
roll_low core Sync to e = omega (arith, e)
roll_low core Advance to e = omega (arith, e)
roll_low core call to e = absurd e

roll_high : (core : Core) (call : Call) (to : ℕ) → IsRollTo core call to → core.frame ≤ to
roll_high core Sync to e = omega (arith, e)
roll_high core Advance to e = omega (arith, e)
roll_high core call to e = absurd e

-- the slots that are free, those of the states that are kept, and those of the jobs are as many as there are
free_at_least : (e : Asked) → from_start (settled_rows e.seen.core) (paths_of e.saves.tree) ≡ kept e.seen.core → e.limit ≤ length (free_slots (is_needed e.saves.tree.states e.jobs) e.limit) + length (kept e.seen.core) + slots_of_jobs e.jobs
free_at_least e kept_is =
    let states : length e.saves.tree.states ≡ length (kept e.seen.core) =
    sym (length-map e.saves.tree.states (λ (u : Saved ℕ). u.path)) ∙ sym (length-map (paths_of e.saves.tree) (λ (q : Rows). settled_rows e.seen.core ++ q)) ∙ ap length kept_is in
    omega (arith, states, needed_leave e.saves.tree.states e.jobs e.limit)

pub suffice : (e : Asked) (call : Call) → FollowsLog still e.seen → from_start (settled_rows e.seen.core) (paths_of e.saves.tree) ≡ kept e.seen.core → HasNoGuesses e → e.seen.settings.threshold + 2 ≤ e.limit → LacksSlots e.seen e.saves.tree.states e.jobs e.limit call → ⊥
suffice e call f kept_is none enough short =
    let core : Core = e.seen.core in
    let game : Game = game_of still e.seen in
    let is : core ≡ played e.seen.settings game f.log.events = f.core ∙ log_played e.seen.settings game e.seen.log f.log in
    let few : length (kept core) + cost core short.to ≤ e.seen.settings.threshold + 2 =
    subst (λ (c : Core). length (kept c) + cost c short.to ≤ e.seen.settings.threshold + 2) (sym is)
    (few_ungrafted e.seen.settings game f.log.events short.to f.log.starts (ap has_graft (sym f.log.left) ∙ none.none_taken)
    (subst (λ (c : Core). short.to ≤ c.frame + 1) is (roll_low core call short.to short.is_to))) in
    omega (arith, few, free_at_least e kept_is, no_slots e.jobs none.none_out, short.few, enough)

pub suffice_always : (e : Asked) (call : Call) → FollowsLog still e.seen → from_start (settled_rows e.seen.core) (paths_of e.saves.tree) ≡ kept e.seen.core → most_slots e ≤ e.limit → LacksSlots e.seen e.saves.tree.states e.jobs e.limit call → ⊥
suffice_always e call f kept_is enough short =
    let settings : Settings = e.seen.settings in
    let core : Core = e.seen.core in
    let game : Game = game_of still e.seen in
    let is : core ≡ played settings game f.log.events = f.core ∙ log_played settings game e.seen.log f.log in
    let few : length (kept core) + cost core short.to ≤ open_to_branches settings.profile + settings.threshold + 2 =
    subst (λ (c : Core). length (kept c) + cost c short.to ≤ open_to_branches settings.profile + settings.threshold + 2) (sym is)
    (rolls_fit settings game f.log.events f.log.starts short.to
    (subst (λ (c : Core). c.frame ≤ short.to) is (roll_high core call short.to short.is_to))
    (subst (λ (c : Core). short.to ≤ c.frame + 1) is (roll_low core call short.to short.is_to))).0 in
    omega (arith, few, free_at_least e kept_is, short.few, enough)
