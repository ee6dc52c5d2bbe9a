-- Where the texts that an option takes stand in memory changes nothing: an argument has the same rule `at_home`, where they
-- stand at one place.
use Rattle.std.proofs.Common.{◌≡◌, ◌∙◌, ◌&&◌, ◌||◌, ap, cond, refl, length, drop, not, ℕ, zero, suc, Bool, true, false, List, [], ◌∷◌, map, Option, Some, None, is_some, sym}
use Rattle.std.specs.Prelude.{◌==◌, encode_utf8, find, fold, if◌then◌else◌, option_map, slice_get}
use Rattle.std.specs.List.{list_any}
use Rattle.std.specs.Option.{option_map_or}
use Rattle.std.specs.Str.{bytes_eq, chars}
use Rattle.clap.proofs.WalkLemmas.{list_any-map}
use Rattle.clap.specs.Facts.{parser_of_value}
use Rattle.clap.specs.Lexer.{long_of, short_of}
use Rattle.clap.specs.Simple.{App, Shape, built, entered, label_of, names_of, rows_at, subcommand_of}
use Rattle.clap.specs.ValueTests.{accepts}
use Rattle.clap.specs.Values.{reading_of, same_text}
use Rattle.clap.specs.Walk.{Held, Outcome, Row, Rule, Step, Text, Waiting, Walk, action_of, after_flag, after_step, answers_to, arg_by_id, arg_by_index, arg_by_long, arg_by_short, attached_value}
use Rattle.clap.specs.Walk.{bundle, bundle_met, bundle_step, default_rows, done, finished, flag_met, has_long, has_row, has_short, idle, is_multiple, is_pending, long_met, long_or_other, next, next_position}
use Rattle.clap.specs.Walk.{nothing_held, option, option_met, option_word, plain, plain_word, positional, pushed, reacted, refused, rows_after, settled, settled_rows, short_met, short_or_plain}
use Rattle.clap.specs.Walk.{stop_after, subcommand, subcommand_met, subcommand_or_other, takes_several, takes_values, texts, to_positional, trailing, used, used_as, used_by_id, value, values_or_missing, waits, walk, walk_from, walked, walked_from, with_default, word_met}
use Rattle.clap.specs.declared.builder.value_parser.ValueParser.{ValueParser}
use Rattle.clap.specs.declared.builder.value_parser.ValueParser.TheVariants as parser
use Rattle.prog_command_line.specs.Commands.{AreGames, Choices, app_with, placed, rollduel_app}

abbrev pub parser_at_home : ValueParser → ValueParser
parser_at_home (parser.Names names) = parser.Names (placed (texts names.now))
parser_at_home other = other

abbrev pub at_home : Rule → Rule
at_home rule = record rule { parser = option_map parser_at_home rule.parser }

abbrev pub all_at_home : List Rule → List Rule
all_at_home = map at_home

abbrev pub shape_at_home : Shape → Shape
shape_at_home shape = record shape { rules = all_at_home shape.rules }

-- the commands of a program; its own arguments stay as they are
abbrev pub app_at_home : App → App
app_at_home app = record app { subs = map shape_at_home app.subs }

texts_placed : (names : List Text) → texts (placed names).now ≡ names
texts_placed [] = refl
texts_placed (name ∷ names) = ap (λ (rest : List Text). name ∷ rest) (texts_placed names)

-- a parser takes the same texts at home, and reads them so
parser_same : (ignore_case : Bool) (p : ValueParser) (v : Text) → accepts ignore_case (parser_at_home p) v ≡ accepts ignore_case p v
parser_same ignore_case (parser.Names names) v =
    let named : Text → Bool = λ t. same_text ignore_case t v in
    let home : Choices = placed (texts names.now) in
    list_any-map named (λ n. n.now) home.now ∙ ap (list_any named) (texts_placed (texts names.now)) ∙ sym (list_any-map named (λ n. n.now) names.now)
parser_same ignore_case other v = refl

pub accepts_same : (ignore_case : Bool) (p : Option ValueParser) (v : Text)
    → accepts ignore_case (parser_of_value (option_map parser_at_home p)) v ≡ accepts ignore_case (parser_of_value p) v
accepts_same ignore_case None v = refl
accepts_same ignore_case (Some p) v = parser_same ignore_case p v

value_reading : (p : ValueParser) → reading_of (parser_at_home p) ≡ reading_of p
value_reading (parser.Names names) = refl
value_reading other = refl

reading_same : (p : Option ValueParser) → reading_of (parser_of_value (option_map parser_at_home p)) ≡ reading_of (parser_of_value p)
reading_same None = refl
reading_same (Some p) = value_reading p

pub either : {X : Type 0} (b : Bool) (x y u v : X) → x ≡ y → u ≡ v → cond b x u ≡ cond b y v
either true x y u v e f = e
either false x y u v e f = f

pick : {X Y : Type 0} (F G : Y → X) (b : Bool) (x y u v : Y) → F x ≡ G y → F u ≡ G v → F (cond b x u) ≡ G (cond b y v)
pick F G true x y u v e f = e
pick F G false x y u v e f = f

-- a search for an argument finds the same at home
pub seek : {X : Type 0} (q : Rule → Bool) → ((a : Rule) → q (at_home a) ≡ q a) → (F G : Option Rule → X) → F None ≡ G None
    → ((a : Rule) → F (Some (at_home a)) ≡ G (Some a)) → (c : List Rule) → F (find q (all_at_home c)) ≡ G (find q c)
seek q e F G none some [] = none
seek q e F G none some (a ∷ c) = ap (λ b. F (cond b (Some (at_home a)) (find q (all_at_home c)))) (e a)
    ∙ pick F G (q a) (Some (at_home a)) (Some a) (find q (all_at_home c)) (find q c) (some a) (seek q e F G none some c)

used_same : (a : Rule) (values : List Text) (rows : List Row) → used (at_home a) values rows ≡ used a values rows
used_same a values rows = ap (λ how. used_as (action_of a) a.id how (values_or_missing a values) rows) (reading_same a.parser)

pub default_same : (rows : List Row) (a : Rule) → with_default rows (at_home a) ≡ with_default rows a
default_same rows a = ap (λ how. if has_row a.id rows then rows else default_rows a.id how a.defaults rows) (reading_same a.parser)

pub defaults_same : (rows : List Row) (c : List Rule) → fold with_default rows (all_at_home c) ≡ fold with_default rows c
defaults_same rows [] = refl
defaults_same rows (a ∷ c) = ap (λ (r : List Row). fold with_default r (all_at_home c)) (default_same rows a) ∙ defaults_same (with_default rows a) c

module _ (c : List Rule) where
  abbrev pub home : List Rule
  home = all_at_home c

  pub by_id : {X : Type 0} (F G : Option Rule → X) (id : Text) → F None ≡ G None → ((a : Rule) → F (Some (at_home a)) ≡ G (Some a)) → F (arg_by_id home id) ≡ G (arg_by_id c id)
  by_id F G id none some = seek (λ a. bytes_eq a.id id) (λ a. refl) F G none some c

  pub by_long : {X : Type 0} (F G : Option Rule → X) (name : Text) → F None ≡ G None → ((a : Rule) → F (Some (at_home a)) ≡ G (Some a)) → F (arg_by_long home name) ≡ G (arg_by_long c name)
  by_long F G name none some = seek (λ a. not (is_some a.index) && has_long a name) (λ a. refl) F G none some c

  pub by_short : {X : Type 0} (F G : Option Rule → X) (x : ℕ) → F None ≡ G None → ((a : Rule) → F (Some (at_home a)) ≡ G (Some a)) → F (arg_by_short home x) ≡ G (arg_by_short c x)
  by_short F G x none some = seek (λ a. not (is_some a.index) && has_short a x) (λ a. refl) F G none some c

  pub by_index : {X : Type 0} (F G : Option Rule → X) (i : ℕ) → F None ≡ G None → ((a : Rule) → F (Some (at_home a)) ≡ G (Some a)) → F (arg_by_index home i) ≡ G (arg_by_index c i)
  by_index F G i none some = seek (λ a. option_map_or (λ k. k == i) a.index false) (λ a. refl) F G none some c

  pub settled_rows_same : (p : Option (Text × List Text)) (rows : List Row) → settled_rows home p rows ≡ settled_rows c p rows
  settled_rows_same None rows = refl
  settled_rows_same (Some p) rows = by_id (λ o. used_by_id o p.1 rows) (λ o. used_by_id o p.1 rows) p.0 refl (λ a. used_same a p.1 rows)

  settled_same : (k : Held) → settled home k ≡ settled c k
  settled_same k = ap (λ rows. let s : Held = record k { rows = rows; pending = None } in s) (settled_rows_same k.pending k.rows)

  pub reacted_same : (a : Rule) (values : List Text) (k : Held) → reacted home (at_home a) values k ≡ reacted c a values k
  reacted_same a values k = ap (λ rows. let s : Held = record k { rows = rows; pending = None } in s)
      (used_same a values (settled_rows home k.pending k.rows) ∙ ap (used a values) (settled_rows_same k.pending k.rows))

  option_same : (a : Rule) (v : Option Text) (k : Held) → option_met home (at_home a) v k ≡ option_met c a v k
  option_same a (Some v) k = ap (λ (s : Held). let r : Held × Outcome = (s, done) in r) (reacted_same a (v ∷ []) k)
  option_same a None k = ap (λ (s : Held). let r : Held × Outcome = (record s { pending = Some (a.id, []) }, waits a.id) in r) (settled_same k)

  flag_same : (a : Rule) (v : Option Text) (k : Held) → flag_met home (at_home a) v k ≡ flag_met c a v k
  flag_same a (Some v) k = refl
  flag_same a None k = ap (λ (s : Held). let r : Held × Outcome = (s, done) in r) (reacted_same a [] k)

  long_at : (v : Option Text) (k : Held) (a : Rule) → long_met home (Some (at_home a)) v k ≡ long_met c (Some a) v k
  long_at v k a = either (takes_values a) (option_met home (at_home a) v k) (option_met c a v k) (flag_met home (at_home a) v k) (flag_met c a v k)
      (option_same a v k) (flag_same a v k)

  long_same : (name : Text) (v : Option Text) (k : Held) → long_met home (arg_by_long home name) v k ≡ long_met c (arg_by_long c name) v k
  long_same name v k = by_long (λ o. long_met home o v k) (λ o. long_met c o v k) name refl (long_at v k)

  short_at : (rest : Text) (k : Held) (F G : Held → Held × Outcome) → ((j : Held) → F j ≡ G j) → (a : Rule) → short_met home (Some (at_home a)) rest k F ≡ short_met c (Some a) rest k G
  short_at rest k F G e a = either (takes_values a) (option_met home (at_home a) (attached_value rest) k) (option_met c a (attached_value rest) k)
      (F (reacted home (at_home a) [] k)) (G (reacted c a [] k)) (option_same a (attached_value rest) k) (ap F (reacted_same a [] k) ∙ e (reacted c a [] k))

  bundle_step_same : (o : Option ℕ) (flags : Text) (skip : ℕ) (so_far : Outcome) (k : Held) (F G : Text → ℕ → Outcome → Held → Held × Outcome)
      → ((t : Text) (n : ℕ) (s : Outcome) (j : Held) → F t n s j ≡ G t n s j) → bundle_step home o flags skip so_far k F ≡ bundle_step c o flags skip so_far k G
  bundle_step_same None flags skip so_far k F G e = refl
  bundle_step_same (Some x) flags zero so_far k F G e =
      let rest = drop (length (encode_utf8 x)) flags in
      by_short (λ o. short_met home o rest k (F rest 0 done)) (λ o. short_met c o rest k (G rest 0 done)) x refl (short_at rest k (F rest 0 done) (G rest 0 done) (e rest 0 done))
  bundle_step_same (Some x) flags (suc skip) so_far k F G e = e (drop (length (encode_utf8 x)) flags) skip so_far k

  bundle_same : (n : ℕ) (flags : Text) (skip : ℕ) (so_far : Outcome) (k : Held) → bundle_met home n flags skip so_far k ≡ bundle_met c n flags skip so_far k
  unfolding bundle_met
  bundle_same zero flags skip so_far k = refl
  bundle_same (suc n) flags skip so_far k = bundle_step_same (slice_get (chars flags) 0) flags skip so_far k (bundle_met home n) (bundle_met c n) (bundle_same n)

  option_word_same : (id word : Text) (k : Held) → option_word (arg_by_id home id) id word k ≡ option_word (arg_by_id c id) id word k
  option_word_same id word k = by_id (λ o. option_word o id word k) (λ o. option_word o id word k) id refl (λ a. refl)

  plain_same : (waiting : Waiting) (word : Text) (k : Held) → plain_word home waiting word k ≡ plain_word c waiting word k
  plain_same idle word k = refl
  plain_same positional word k = refl
  plain_same (option id) word k = ap (λ (r : Held × Waiting). let s : Held × Step = (r.0, next r.1) in s) (option_word_same id word k)

  after_same : (waiting : Waiting) (word : Text) (k : Held) (o : Outcome) → after_flag home waiting word k o ≡ after_flag c waiting word k o
  after_same waiting word k done = refl
  after_same waiting word k (waits id) = refl
  after_same waiting word k plain = plain_same waiting word k
  after_same waiting word k refused = plain_same waiting word k

  flag_word_same : (waiting : Waiting) (word : Text) (x y : Held × Outcome) → x ≡ y → after_flag home waiting word x.0 x.1 ≡ after_flag c waiting word y.0 y.1
  flag_word_same waiting word x y e = ap (λ (r : Held × Outcome). after_flag home waiting word r.0 r.1) e ∙ after_same waiting word y.0 y.1

  short_or_plain_same : (waiting : Waiting) (word : Text) (o : Option Text) (k : Held) → short_or_plain home waiting word o k ≡ short_or_plain c waiting word o k
  short_or_plain_same waiting word (Some flags) k =
      flag_word_same waiting word (bundle home flags k) (bundle c flags k) (bundle_same (length flags) flags k.skip plain (record k { skip = 0 }))
  short_or_plain_same waiting word None k = plain_same waiting word k

  long_or_other_same : (waiting : Waiting) (word : Text) (o : Option (Text × Option Text)) (k : Held) → long_or_other home waiting word o k ≡ long_or_other c waiting word o k
  long_or_other_same waiting word (Some p) k =
      flag_word_same waiting word (long_met home (arg_by_long home p.0) p.1 k) (long_met c (arg_by_long c p.0) p.1 k) (long_same p.0 p.1 k)
  long_or_other_same waiting word None k = short_or_plain_same waiting word (short_of word) k

  other_same : (o : Option Text) (waiting : Waiting) (position : ℕ) (word : Text) (k : Held)
      → subcommand_or_other home o waiting position word k ≡ subcommand_or_other c o waiting position word k
  other_same (Some name) waiting position word k = refl
  other_same None waiting position word k = either (bytes_eq word (45 ∷ 45 ∷ [])) (k, trailing position) (k, trailing position)
      (long_or_other home waiting word (long_of word) k) (long_or_other c waiting word (long_of word) k) refl (long_or_other_same waiting word (long_of word) k)

  pub met_same : (is_trailing : Bool) (waiting : Waiting) (position : ℕ) (word : Text) (k : Held)
      → word_met home [] is_trailing waiting position word k ≡ word_met c [] is_trailing waiting position word k
  met_same true waiting position word k = refl
  met_same false waiting position word k = other_same (subcommand_met [] waiting word) waiting position word k

  placed_at : (word : Text) (w : Walk) (k : Held) (a : Rule) → to_positional home (Some (at_home a)) word w k ≡ to_positional c (Some a) word w k
  placed_at word w k a = ap (λ (s : Held). let v : Walk = record {
    held = pushed a.id word (if is_pending a k.pending && takes_several a then k else s);
    waiting = if is_multiple a then positional else idle;
    position = next_position a w.position;
    is_trailing = w.is_trailing || a.trailing_var_arg;
    stopped = None;
  } in v) (settled_same k)

  step_same : (word : Text) (w : Walk) (k : Held) (s : Step) → after_step home word w k s ≡ after_step c word w k s
  step_same word w k (next waiting) = refl
  step_same word w k (trailing position) = refl
  step_same word w k (subcommand name) = refl
  step_same word w k value = by_index (λ o. to_positional home o word w k) (λ o. to_positional c o word w k) w.position refl (placed_at word w k)

  walked_from_same : (o : Option (Text × List Text)) (w : Walk) (word : Text) → walked_from home [] o w word ≡ walked_from c [] o w word
  walked_from_same (Some p) w word = refl
  walked_from_same None w word =
      ap (λ (r : Held × Step). after_step home word w r.0 r.1) (met_same w.is_trailing w.waiting w.position word w.held)
      ∙ step_same word w (word_met c [] w.is_trailing w.waiting w.position word w.held).0 (word_met c [] w.is_trailing w.waiting w.position word w.held).1

  pub walked_same : (w : Walk) (word : Text) → walked home [] w word ≡ walked c [] w word
  unfolding walked
  walked_same w word = walked_from_same w.stopped w word

  pub walk_same : (words : List Text) (w : Walk) → fold (walked home []) w words ≡ fold (walked c []) w words
  walk_same [] w = refl
  walk_same (x ∷ xs) w = ap (λ (v : Walk). fold (walked home []) v xs) (walked_same w x) ∙ walk_same xs (walked c [] w x)

  pub finished_same : (k : Held) → finished home k ≡ finished c k
  finished_same k = defaults_same (settled_rows home k.pending k.rows) c ∙ ap (λ (rows : List Row). fold with_default rows c) (settled_rows_same k.pending k.rows)

  rows_same : (words : List Text) → rows_after home [] words ≡ rows_after c [] words
  rows_same words = ap (λ (w : Walk). finished home w.held) (walk_same words (walk_from nothing_held)) ∙ finished_same (walk c [] nothing_held words).held

-- the command of a name is the same at home
pub seek_command : {X : Type 0} (F G : Option Shape → X) (name : Text) → F None ≡ G None → ((s : Shape) → F (Some (shape_at_home s)) ≡ G (Some s)) → (subs : List Shape)
    → F (find (λ s. answers_to name (label_of s)) (map shape_at_home subs)) ≡ G (find (λ s. answers_to name (label_of s)) subs)
seek_command F G name none some [] = none
seek_command F G name none some (s ∷ subs) =
    let names : Shape → Bool = λ t. answers_to name (label_of t) in
    pick F G (names s) (Some (shape_at_home s)) (Some s) (find names (map shape_at_home subs)) (find names subs) (some s) (seek_command F G name none some subs)

pub entered_same : (app : App) (stop : Option (Text × List Text)) → entered (app_at_home app) stop ≡ entered app stop
entered_same app None = refl
entered_same app (Some p) =
    let rows : Option Shape → Option (Text × List Row) = option_map (λ s. rows_at s p.1) in
    seek_command rows rows p.0 refl (λ s. ap (λ (r : List Row). Some (s.name, r)) (rows_same s.rules p.1)) app.subs

-- the program is one at home
pub is_program : (games : Choices) → AreGames games → app_with (placed (texts games.now)) ≡ rollduel_app
is_program games are_games = ap (λ (g : List Text). app_with (placed g)) are_games

pub subcommand_same : (games : Choices) → AreGames games → (words : List Text) → subcommand_of (app_with games) words ≡ subcommand_of rollduel_app words
subcommand_same games are_games words =
    let app = built (app_with games) in
    sym (entered_same app (stop_after app.top.rules (names_of app) (drop 1 words)))
    ∙ ap (λ (a : App). subcommand_of a words) (is_program games are_games)
