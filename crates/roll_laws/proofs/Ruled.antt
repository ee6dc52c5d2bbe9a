-- Which possible paths an input rules out.
use Rattle.std.proofs.Common.{◌≡◌, min, ℕ, zero, suc, ◌+◌, ◌<◌, ◌≤◌, List, [], ◌∷◌, ◌++◌, length, length-append, length-take, get_or, drop, take, refl, ap, sym, subst, ◌∙◌, Bool, true, false, arith, Option, Some, None}
use Rattle.std.specs.Prelude.{◌&&◌, nat_le, slice_get, slice_set}
use Rattle.std.specs.List.{list_all}
use Rattle.std.specs.Option.{option_map_or}
use Rattle.std.proofs.lemmas.Bool.{false≢true, le-ltb, leb-true, le-leb}
use Rattle.std.proofs.Math.ListN.{get_or-append}
use Rattle.std.proofs.Math.Seq.{get_or-append_seam}
use Rattle.roll_frame.specs.Cells.{cell_eq, Rows}
use Rattle.roll_frame.specs.Events.{played}
use Rattle.roll_frame.specs.Core.{Core, is_known, cell_possible, row_possible, possible_from, settled}
use Rattle.roll_frame.specs.Paths.{begins_with}
use Rattle.roll_frame.specs.Timeline.{Player, cell_at, front, timeline}
use Rattle.roll_frame.specs.declared.row.Cell.{Cell}
use Rattle.roll_frame.specs.declared.row.Cell.TheVariants.{Word, Gone}
use Rattle.roll_frame.proofs.Beginnings.{begins, begins_is}
use Rattle.roll_frame.proofs.Timelines.{length_timeline}
use Rattle.roll_laws.specs.Laws.{WordsRuleOut, LeavingRulesOut, LongBeginSettled, has_no_other, has_no_other_in}
use Rattle.roll_laws.proofs.Fronts.{settled_is}
use Rattle.roll_laws.proofs.Known.{cell_confirmed, cell_gone, known_confirmed, known_gone}
use Rattle.roll_laws.proofs.KeptPaths.{possible_settled}
use Rattle.roll_laws.proofs.Saved.{In}
use Rattle.roll_laws.proofs.Sound.{sound_played}

and_both : (a b x y : Bool) → ((a && x) && (b && y)) ≡ ((a && b) && (x && y))
and_both true true x y = refl
and_both true false true y = refl
and_both true false false y = refl
and_both false b x y = refl

swap : (a b c : Bool) → ((a && b) && c) ≡ ((a && c) && b)
swap true true true = refl
swap true true false = refl
swap true false true = refl
swap true false false = refl
swap false b c = refl

assoc : (a b c : Bool) → (a && (b && c)) ≡ ((a && b) && c)
assoc true b c = refl
assoc false b c = refl

and_true : (a : Bool) → a ≡ (a && true)
and_true true = refl
and_true false = refl

-- a player's cells are possible after a change where they were, and pass a test
pub record Restricts (t : ℕ) (player later : Player) (test : Cell → Bool) : Type 0 where
  pub is : (cell : Cell) → cell_possible t later cell ≡ (cell_possible t player cell && test cell)

module _ (t : ℕ) (player later : Player) (test : Cell → Bool) (r : Restricts t player later test) where
  -- and so are rows
  pub row_restricted : (ps : List Player) (place : ℕ) (row : List Cell) → slice_get ps place ≡ Some player
      → row_possible t (slice_set ps place later) row ≡ (row_possible t ps row && option_map_or test (slice_get row place) true)
  row_restricted [] place row e = absurd (none e)
    where
      none : None ≡ Some player → ⊥
      none f = cc
  row_restricted (p ∷ ps) zero [] e = refl
  row_restricted (p ∷ ps) zero (cell ∷ row) e =
      let same : p ≡ player = one e in
      ap (λ b. b && row_possible t ps row) (r.is cell ∙ ap (λ (x : Player). cell_possible t x cell && test cell) (sym same)) ∙ swap (cell_possible t p cell) (test cell) (row_possible t ps row)
    where
      one : Some p ≡ Some player → p ≡ player
      one f = cc
  row_restricted (p ∷ ps) (suc place) [] e = refl
  row_restricted (p ∷ ps) (suc place) (cell ∷ row) e = ap (λ b. cell_possible t p cell && b) (row_restricted ps place row e) ∙ assoc (cell_possible t p cell) (row_possible t ps row) (option_map_or test (slice_get row place) true)

no_test : (o : Option Cell) → option_map_or (λ (c : Cell). true) o true ≡ true
no_test None = refl
no_test (Some c) = refl

-- a test of a cell that is known, and of one that isn't
cell_known : (t : ℕ) (p : Player) (cell : Cell) → is_known t p ≡ true → cell_possible t p cell ≡ cell_eq cell (cell_at t p)
cell_known t p cell k = rw k refl

cell_open : (t : ℕ) (p : Player) (cell : Cell) → is_known t p ≡ false → cell_possible t p cell ≡ true
cell_open t p cell k = rw k refl

not_known : (t : ℕ) (p : Player) → length p.words ≤ t → p.gone ≡ false → is_known t p ≡ false
not_known t p l g = rw (le-ltb t (length p.words) l, g) refl

module _ (place : ℕ) (player later : Player) where
  -- where nothing is ruled out in a frame, a row is possible as before
  row_stays : (t : ℕ) (ps : List Player) (row : List Cell) → ((cell : Cell) → cell_possible t later cell ≡ cell_possible t player cell) → slice_get ps place ≡ Some player → row_possible t (slice_set ps place later) row ≡ row_possible t ps row
  row_stays t ps row same e =
      row_restricted t player later (λ c. true) (record { is = λ cell. same cell ∙ and_true (cell_possible t player cell) }) ps place row e
      ∙ ap (λ b. row_possible t ps row && b) (no_test (slice_get row place)) ∙ sym (and_true (row_possible t ps row))

  path_stays : (t : ℕ) (ps : List Player) (q : Rows) → ((s : ℕ) (cell : Cell) → t ≤ s → cell_possible s later cell ≡ cell_possible s player cell) → slice_get ps place ≡ Some player → possible_from t (slice_set ps place later) q ≡ possible_from t ps q
  path_stays t ps [] same e = refl
  path_stays t ps (row ∷ rows) same e =
      ap (λ b. b && possible_from (suc t) (slice_set ps place later) rows) (row_stays t ps row (λ cell. same t cell (omega arith)) e)
      ∙ ap (λ b. row_possible t ps row && b) (path_stays (suc t) ps rows (λ s cell l. same s cell (omega arith)) e)

  -- where a cell is ruled out in one frame
  word_rules : (d t : ℕ) (ps : List Player) (cell : Cell) (q : Rows)
      → ((s : ℕ) (c : Cell) → s < t + d → cell_possible s later c ≡ cell_possible s player c)
      → ((c : Cell) → cell_possible (t + d) later c ≡ (cell_possible (t + d) player c && cell_eq c cell))
      → ((s : ℕ) (c : Cell) → t + d < s → cell_possible s later c ≡ cell_possible s player c)
      → slice_get ps place ≡ Some player
      → possible_from t (slice_set ps place later) q ≡ (possible_from t ps q && has_no_other_in place d cell q)
  word_rules d t ps cell [] before at after e = refl
  word_rules zero t ps cell (row ∷ rows) before at after e =
      let z : t + 0 ≡ t = omega arith in
      let here : row_possible t (slice_set ps place later) row ≡ (row_possible t ps row && has_no_other place cell row) =
      row_restricted t player later (λ c. cell_eq c cell) (record { is = λ c. subst (λ n. cell_possible n later c ≡ (cell_possible n player c && cell_eq c cell)) z (at c) }) ps place row e in
      ap (λ b. b && possible_from (suc t) (slice_set ps place later) rows) here
      ∙ ap (λ b. (row_possible t ps row && has_no_other place cell row) && b) (path_stays (suc t) ps rows (λ s c l. after s c (omega (arith, l))) e)
      ∙ swap (row_possible t ps row) (has_no_other place cell row) (possible_from (suc t) ps rows)
  word_rules (suc d) t ps cell (row ∷ rows) before at after e =
      let next : t + suc d ≡ suc t + d = omega arith in
      let rest = word_rules d (suc t) ps cell rows (λ s c l. before s c (omega (arith, l))) (subst (λ n. (c : Cell) → cell_possible n later c ≡ (cell_possible n player c && cell_eq c cell)) next at) (λ s c l. after s c (omega (arith, l))) e in
      ap (λ b. b && possible_from (suc t) (slice_set ps place later) rows) (row_stays t ps row (λ c. before t c (omega arith)) e)
      ∙ ap (λ b. row_possible t ps row && b) rest
      ∙ assoc (row_possible t ps row) (possible_from (suc t) ps rows) (has_no_other_in place d cell rows)

  -- where all other cells are ruled out in all frames
  others_go : (t : ℕ) (ps : List Player) (cell : Cell) (q : Rows)
      → ((s : ℕ) (c : Cell) → t ≤ s → cell_possible s later c ≡ (cell_possible s player c && cell_eq c cell))
      → slice_get ps place ≡ Some player
      → possible_from t (slice_set ps place later) q ≡ (possible_from t ps q && list_all (has_no_other place cell) q)
  others_go t ps cell [] from e = refl
  others_go t ps cell (row ∷ rows) from e =
      let here : row_possible t (slice_set ps place later) row ≡ (row_possible t ps row && has_no_other place cell row) =
      row_restricted t player later (λ c. cell_eq c cell) (record { is = λ c. from t c (omega arith) }) ps place row e in
      ap (λ b. b && possible_from (suc t) (slice_set ps place later) rows) here
      ∙ ap (λ b. (row_possible t ps row && has_no_other place cell row) && b) (others_go (suc t) ps cell rows (λ s c l. from s c (omega (arith, l))) e)
      ∙ and_both (row_possible t ps row) (possible_from (suc t) ps rows) (has_no_other place cell row) (list_all (has_no_other place cell) rows)

  -- the same from a frame on
  leaving_rules : (d t : ℕ) (ps : List Player) (cell : Cell) (q : Rows)
      → ((s : ℕ) (c : Cell) → s < t + d → cell_possible s later c ≡ cell_possible s player c)
      → ((s : ℕ) (c : Cell) → t + d ≤ s → cell_possible s later c ≡ (cell_possible s player c && cell_eq c cell))
      → slice_get ps place ≡ Some player
      → possible_from t (slice_set ps place later) q ≡ (possible_from t ps q && list_all (has_no_other place cell) (drop d q))
  leaving_rules zero t ps cell q before from e = others_go t ps cell q (λ s c l. from s c (omega (arith, l))) e
  leaving_rules (suc d) t ps cell [] before from e = refl
  leaving_rules (suc d) t ps cell (row ∷ rows) before from e =
      let rest = leaving_rules d (suc t) ps cell rows (λ s c l. before s c (omega (arith, l))) (λ s c l. from s c (omega (arith, l))) e in
      ap (λ b. b && possible_from (suc t) (slice_set ps place later) rows) (row_stays t ps row (λ c. before t c (omega arith)) e)
      ∙ ap (λ b. row_possible t ps row && b) rest
      ∙ assoc (row_possible t ps row) (possible_from (suc t) ps rows) (list_all (has_no_other place cell) (drop d rows))

known_same : (t : ℕ) (player later : Player) (cell : Cell) → is_known t player ≡ true → is_known t later ≡ true → cell_at t later ≡ cell_at t player → cell_possible t later cell ≡ cell_possible t player cell
known_same t player later cell k l e = cell_known t later cell l ∙ ap (cell_eq cell) e ∙ sym (cell_known t player cell k)

-- a cell that becomes known
now_known : (t : ℕ) (player later : Player) (cell c : Cell) → is_known t player ≡ false → is_known t later ≡ true → cell_at t later ≡ cell → cell_possible t later c ≡ (cell_possible t player c && cell_eq c cell)
now_known t player later cell c k l e = cell_known t later c l ∙ ap (cell_eq c) e ∙ sym (ap (λ b. b && cell_eq c cell) (cell_open t player c k))

pub words_rule_out : WordsRuleOut
words_rule_out ps place player later word q e staying words stays =
    word_rules place player later (length player.words) 0 ps (Word word) q
    (λ s c l. known_same s player later c (known_confirmed s player (omega (arith, l))) (known_confirmed s later (omega (arith, l, longer)))
    (cell_confirmed s later (omega (arith, l, longer)) ∙ ap Word (ap (λ (ws : List ℕ). get_or ws s 0) words ∙ get_or-append player.words (word ∷ []) 0 s (omega (arith, l))) ∙ sym (cell_confirmed s player (omega (arith, l)))))
    (λ c. now_known (0 + count) player later (Word word) c (not_known (0 + count) player (omega arith) staying) (known_confirmed (0 + count) later (omega (arith, longer)))
    (cell_confirmed (0 + count) later (omega (arith, longer)) ∙ ap Word (ap (λ (ws : List ℕ). get_or ws (0 + count) 0) words ∙ ap (λ n. get_or (player.words ++ word ∷ []) n 0) zero_count ∙ get_or-append_seam player.words word [] 0)))
    (λ s c l. cell_open s later c (not_known s later (omega (arith, l, longer)) stays) ∙ sym (cell_open s player c (not_known s player (omega (arith, l)) staying)))
    e
  where
    count : ℕ
    count = length player.words

    zero_count : 0 + count ≡ count
    zero_count = omega arith

    longer : length later.words ≡ count + 1
    longer = ap (λ (ws : List ℕ). length ws) words ∙ length-append player.words (word ∷ [])

pub leaving_rules_out : LeavingRulesOut
leaving_rules_out ps place player later q e staying words leaves =
    leaving_rules place player later (length player.words) 0 ps Gone q
    (λ s c l. known_same s player later c (known_confirmed s player (omega (arith, l))) (known_gone s later leaves)
    (cell_confirmed s later (omega (arith, l, as_long)) ∙ ap Word (ap (λ (ws : List ℕ). get_or ws s 0) words) ∙ sym (cell_confirmed s player (omega (arith, l)))))
    (λ s c l. now_known s player later Gone c (not_known s player (omega (arith, l)) staying) (known_gone s later leaves) (cell_gone s later (omega (arith, l, as_long)) leaves))
    e
  where
    as_long : length later.words ≡ length player.words
    as_long = ap (λ (ws : List ℕ). length ws) words

-- a path that begins with so many rows is as long
begins_long : (q p : Rows) → begins_with q p ≡ true → length p ≤ length q
begins_long q p b = omega (arith, ap (λ (r : Rows). length r) (begins_is q p b), length-take (length p) q)

pub long_begin_settled : LongBeginSettled
long_begin_settled settings game events h path possible = go (nat_le k (length path)) refl
  where
    core : Core
    core = played settings game events

    k : ℕ
    k = settled core

    below : (k ≤ min (front core.players) core.frame) × In (timeline core.players k) core.ever
    below = settled_is core (sound_played settings game events h).root

    go : (b : Bool) → nat_le k (length path) ≡ b → b ≡ begins_with path (timeline core.players k)
    go true e =
        let rows = possible_settled core.players k path possible (omega (arith, below.0)) (leb-true k (length path) e) in
        sym (begins path (timeline core.players k) (sym rows ∙ ap (λ n. take n path) (sym (length_timeline core.players k))))
    go false e = short (begins_with path (timeline core.players k)) refl
      where
        short : (b : Bool) → begins_with path (timeline core.players k) ≡ b → false ≡ b
        short false f = refl
        short true f = absurd (false≢true (sym e ∙ le-leb k (length path) (omega (arith, begins_long path (timeline core.players k) f, length_timeline core.players k))))
