-- What an input cuts off a tree, and what stays kept.
use Rattle.std.proofs.Common.{◌≡◌, ℕ, zero, suc, ◌+◌, ◌-◌, ◌≤◌, List, [], ◌∷◌, ◌++◌, length, length-drop, drop, take, Bool, true, false, refl, ap, sym, subst, ◌∙◌, inl, inr, arith, Option, Some, None}
use Rattle.std.specs.Prelude.{◌&&◌, ◌==◌, filter, not, slice_get, slice_set}
use Rattle.std.specs.List.{list_all}
use Rattle.std.specs.Option.{option_map_or}
use Rattle.std.proofs.lemmas.List.{take_all}
use Rattle.std.proofs.Math.Seq.{drop-append-add}
use Rattle.roll_frame.specs.Cells.{Rows, cell_eq}
use Rattle.roll_frame.specs.Claims.{cell_in, cell_of_row}
use Rattle.roll_frame.specs.Core.{Core, is_possible, settled, kept}
use Rattle.roll_frame.specs.Timeline.{Player}
use Rattle.roll_frame.specs.declared.row.Cell.{Cell}
use Rattle.roll_frame.specs.declared.row.Cell.TheVariants.{Word, Gone}
use Rattle.roll_laws.specs.Laws.{has_no_other, has_no_other_in}
use Rattle.roll_laws.proofs.KeptPaths.{live}
use Rattle.roll_laws.proofs.Ruled.{words_rule_out, leaving_rules_out}
use Rattle.roll_laws.proofs.Saved.{In, in_has}
use Rattle.roll_tree.specs.SavedStates.{cell_of, has_other}
use Rattle.roll_frame.proofs.Timelines.{length_timeline}
use Rattle.roll_session.specs.Standing.{settled_rows, from_start}
use Rattle.roll_session.proofs.Filters.{filter_on, filter_same}

-- the cell of the player at a place from 0
cell_of_is : (place n : ℕ) (q : Rows) → cell_of (place + 1) n q ≡ cell_in q n place
cell_of_is place n q =
    let some : ((place + 1) == 0) ≡ false = grind arith in
    let back : place + 1 - 1 ≡ place = omega arith in
    rw (some, back) refl

-- no other cell is this one, or none
pub no_other_is : (place n : ℕ) (cell : Cell) (q : Rows) → not (has_other (place + 1) n cell q) ≡ has_no_other_in place n cell q
no_other_is place n cell q = ap (λ (o : Option Cell). not (option_map_or (λ c. not (cell_eq c cell)) o false)) (cell_of_is place n q) ∙ in_row (slice_get q n)
  where
    twice : (b : Bool) → not (not b) ≡ b
    twice true = refl
    twice false = refl

    in_cell : (o : Option Cell) → not (option_map_or (λ c. not (cell_eq c cell)) o false) ≡ option_map_or (λ c. cell_eq c cell) o true
    in_cell None = refl
    in_cell (Some c) = twice (cell_eq c cell)

    in_row : (o : Option (List Cell)) → not (option_map_or (λ c. not (cell_eq c cell)) (cell_of_row o place) false) ≡ option_map_or (has_no_other place cell) o true
    in_row None = refl
    in_row (Some row) = in_cell (slice_get row place)

-- a row past the settled ones
get_on : (settled q : Rows) (n : ℕ) → slice_get (settled ++ q) (length settled + n) ≡ slice_get q n
get_on [] q n = let z : 0 + n ≡ n = omega arith in ap (slice_get q) z
get_on (row ∷ settled) q n =
    let next : length (row ∷ settled) + n ≡ suc (length settled + n) = omega arith in
    ap (slice_get (row ∷ settled ++ q)) next ∙ get_on settled q n

start_in : (settled q : Rows) (ps : List Rows) → In q ps → In (settled ++ q) (from_start settled ps)
start_in settled q [] i = absurd i
start_in settled q (p ∷ ps) (inl e) = inl (ap (λ (r : Rows). settled ++ r) e)
start_in settled q (p ∷ ps) (inr i) = inr (start_in settled q ps i)

-- a path of a tree is possible
start_possible : (core : Core) (ps : List Rows) (q : Rows) → from_start (settled_rows core) ps ≡ kept core → In q ps → is_possible core.players (settled_rows core ++ q) ≡ true
start_possible core ps q e i =
    let there : In (settled_rows core ++ q) (kept core) = subst (λ (l : List Rows). In (settled_rows core ++ q) l) e (start_in (settled_rows core) q ps i) in
    (live core (settled_rows core ++ q) (in_has (kept core) (settled_rows core ++ q) there)).2

-- a cut that is a change of what is possible leaves what is possible then
pub cut_leaves : (core : Core) (players : List Player) (test : Rows → Bool) (ps : List Rows)
    → from_start (settled_rows core) ps ≡ kept core
    → ((q : Rows) → In q ps → test q ≡ is_possible players (settled_rows core ++ q))
    → from_start (settled_rows core) (filter test ps) ≡ filter (is_possible players) (kept core)
cut_leaves core players test ps e same =
    ap (from_start (settled_rows core)) (filter_same test (λ q. is_possible players (settled_rows core ++ q)) ps same)
    ∙ sym (filter_on (settled_rows core) (is_possible players) ps)
    ∙ ap (filter (is_possible players)) e

-- a player's next word cuts the paths with another cell in its frame, and no others
pub word_cut : (core : Core) (place : ℕ) (player later : Player) (word : ℕ) (ps : List Rows)
    → from_start (settled_rows core) ps ≡ kept core
    → slice_get core.players place ≡ Some player → player.gone ≡ false → later.words ≡ player.words ++ word ∷ [] → later.gone ≡ false
    → settled core ≤ length player.words
    → from_start (settled_rows core) (filter (λ q. not (has_other (place + 1) (length player.words - settled core) (Word word) q)) ps)
    ≡ filter (is_possible (slice_set core.players place later)) (kept core)
word_cut core place player later word ps e at staying words stays low =
    cut_leaves core (slice_set core.players place later) (λ q. not (has_other (place + 1) (length player.words - settled core) (Word word) q)) ps e same
  where
    past : length player.words ≡ length (settled_rows core) + (length player.words - settled core)
    past = omega (arith, low, length_timeline core.players (settled core))

    same : (q : Rows) → In q ps → not (has_other (place + 1) (length player.words - settled core) (Word word) q) ≡ is_possible (slice_set core.players place later) (settled_rows core ++ q)
    same q i =
        no_other_is place (length player.words - settled core) (Word word) q
        ∙ ap (λ (o : Option (List Cell)). option_map_or (has_no_other place (Word word)) o true) (sym (ap (slice_get (settled_rows core ++ q)) past ∙ get_on (settled_rows core) q (length player.words - settled core)))
        ∙ ap (λ b. b && has_no_other_in place (length player.words) (Word word) (settled_rows core ++ q)) (sym (start_possible core ps q e i))
        ∙ sym (words_rule_out core.players place player later word (settled_rows core ++ q) at staying words stays)

-- a player who leaves cuts the paths with another cell than a gone one from its next word's frame on, and no others
pub leaving_cut : (core : Core) (place : ℕ) (player later : Player) (ps : List Rows)
    → from_start (settled_rows core) ps ≡ kept core
    → slice_get core.players place ≡ Some player → player.gone ≡ false → later.words ≡ player.words → later.gone ≡ true
    → settled core ≤ length player.words
    → from_start (settled_rows core) (filter (λ q. list_all (has_no_other place Gone) (drop (length player.words - settled core) q)) ps)
    ≡ filter (is_possible (slice_set core.players place later)) (kept core)
leaving_cut core place player later ps e at staying words leaves low =
    cut_leaves core (slice_set core.players place later) (λ q. list_all (has_no_other place Gone) (drop (length player.words - settled core) q)) ps e same
  where
    past : length player.words ≡ length (settled_rows core) + (length player.words - settled core)
    past = omega (arith, low, length_timeline core.players (settled core))

    same : (q : Rows) → In q ps → list_all (has_no_other place Gone) (drop (length player.words - settled core) q) ≡ is_possible (slice_set core.players place later) (settled_rows core ++ q)
    same q i =
        ap (list_all (has_no_other place Gone)) (sym (ap (λ n. drop n (settled_rows core ++ q)) past ∙ drop-append-add (settled_rows core) q (length player.words - settled core)))
        ∙ ap (λ b. b && list_all (has_no_other place Gone) (drop (length player.words) (settled_rows core ++ q))) (sym (start_possible core ps q e i))
        ∙ sym (leaving_rules_out core.players place player later (settled_rows core ++ q) at staying words leaves)

all_next : {X : Type 0} (test : X → Bool) (xs : List X) (n : ℕ) → list_all test (take (n + 1) xs) ≡ (list_all test (take n xs) && option_map_or test (slice_get xs n) true)
all_next {X} test [] n = none (n + 1) ∙ ap (λ b. b && true) (sym (none n))
  where
    none : (m : ℕ) → list_all test (take m []) ≡ true
    none zero = refl
    none (suc m) = refl
all_next test (x ∷ xs) zero = both (test x)
  where
    both : (b : Bool) → (b && true) ≡ b
    both true = refl
    both false = refl
all_next test (x ∷ xs) (suc n) =
    let next : suc n + 1 ≡ suc (n + 1) = omega arith in
    ap (λ m. list_all test (take m (x ∷ xs))) next ∙ ap (λ b. test x && b) (all_next test xs n) ∙ assoc (test x) (list_all test (take n xs)) (option_map_or test (slice_get xs n) true)
  where
    assoc : (a b c : Bool) → (a && (b && c)) ≡ ((a && b) && c)
    assoc true b c = refl
    assoc false b c = refl

get_drop : {X : Type 0} (from n : ℕ) (xs : List X) → slice_get (drop from xs) n ≡ slice_get xs (from + n)
get_drop zero n xs = let z : n ≡ 0 + n = omega arith in ap (slice_get xs) z
get_drop (suc from) n [] = refl
get_drop (suc from) n (x ∷ xs) =
    let next : suc (from + n) ≡ suc from + n = omega arith in
    get_drop from n xs ∙ ap (slice_get (x ∷ xs)) next

-- one frame more of a player who is gone
pub gone_step : (place n from : ℕ) (q : Rows) → list_all (has_no_other place Gone) (take (n + 1) (drop from q)) ≡ (list_all (has_no_other place Gone) (take n (drop from q)) && not (has_other (place + 1) (from + n) Gone q))
gone_step place n from q =
    all_next (has_no_other place Gone) (drop from q) n
    ∙ ap (λ (o : Option (List Cell)). list_all (has_no_other place Gone) (take n (drop from q)) && option_map_or (has_no_other place Gone) o true) (get_drop from n q)
    ∙ ap (λ b. list_all (has_no_other place Gone) (take n (drop from q)) && b) (sym (no_other_is place (from + n) Gone q))

-- all frames of a player who is gone
pub gone_all : (place n from : ℕ) (q : Rows) → length q ≤ from + n → list_all (has_no_other place Gone) (take n (drop from q)) ≡ list_all (has_no_other place Gone) (drop from q)
gone_all place n from q long = ap (list_all (has_no_other place Gone)) (take_all n (drop from q) (omega (arith, long, length-drop from q)))
