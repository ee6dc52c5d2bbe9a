-- Where the texts that an option takes stand in memory doesn't change how words fail.
use Rattle.std.proofs.Common.{◌≡◌, ◌∙◌, ◌&&◌, ◌||◌, ap, ap₂, cond, refl, sym, is_some, length, drop, not, ℕ, zero, suc, Bool, false, List, [], ◌∷◌, Option, Some, None}
use Rattle.std.specs.Prelude.{encode_utf8, option_map, slice_get}
use Rattle.std.specs.List.{list_any}
use Rattle.std.specs.Option.{option_map_or}
use Rattle.std.specs.Str.{bytes_eq, chars}
use Rattle.clap.specs.Facts.{explicit_source, parser_of_value, unwrap_or_range}
use Rattle.clap.specs.Faults.{action_fault, bundle_fault, bundle_step_fault, check_fault, count_fault, default_fault, defaults_fault, entered_fault, fault_of, flag_word_fault, flags_fault, level_fault, long_fault, option_fault, other_fault, positional_fault}
use Rattle.clap.specs.Faults.{react_fault, repeat_fault, settle_fault, short_fault, step_fault, stray_fault, turn_fault, use_fault, values_fault, walk_fault}
use Rattle.clap.specs.Kinds.{Kinds, check_kinds, or_else, range_kinds, request_kinds, value_kinds}
use Rattle.clap.specs.Lexer.{long_of, short_of}
use Rattle.clap.specs.Simple.{App, Shape, built, names_of}
use Rattle.clap.specs.Takes.{is_given}
use Rattle.clap.specs.Values.{refused_kind}
use Rattle.clap.specs.Walk.{Held, Row, Rule, Step, Text, Walk, action_of, arg_by_id, arg_by_long, attached_value, finished, has_row, is_empty, is_pending, most_values}
use Rattle.clap.specs.Walk.{next, nothing_held, reacted, settled, settled_rows, stop_after, subcommand, subcommand_met, takes_several, takes_values, trailing, value, values_or_missing, walk, walk_from, walked, with_default, word_met}
use Rattle.clap.specs.declared.builder.action.ArgAction.{ArgAction}
use Rattle.clap.specs.declared.builder.action.ArgAction.TheVariants.{Set, Append, SetTrue, SetFalse, Count}
use Rattle.clap.specs.declared.builder.value_parser.ValueParser.{ValueParser}
use Rattle.clap.specs.declared.builder.value_parser.ValueParser.TheVariants as parser
use Rattle.clap.specs.declared.error.kind.ErrorKind.{ErrorKind}
use Rattle.clap.specs.declared.error.kind.ErrorKind.TheVariants as kind
use Rattle.prog_command_line.proofs.Places.{accepts_same, all_at_home, app_at_home, at_home, by_id, by_index, by_long, by_short, default_same, entered_same, finished_same, home, is_program, met_same, parser_at_home, reacted_same, seek_command, settled_rows_same, shape_at_home, walk_same, walked_same}
use Rattle.prog_command_line.specs.Commands.{AreGames, Choices, app_with, rollduel_app}

kind_of_value : (p : ValueParser) → refused_kind (parser_at_home p) ≡ refused_kind p
kind_of_value (parser.Names names) = refl
kind_of_value other = refl

kind_same : (p : Option ValueParser) → refused_kind (parser_of_value (option_map parser_at_home p)) ≡ refused_kind (parser_of_value p)
kind_same None = refl
kind_same (Some p) = kind_of_value p

value_same : (a : Rule) (v : Text) → value_kinds a.ignore_case (parser_of_value (at_home a).parser) v ≡ value_kinds a.ignore_case (parser_of_value a.parser) v
value_same a v = ap₂ (λ (b : Bool) (k : ErrorKind). let ks : Kinds = cond b [] (k ∷ []) in ks) (accepts_same a.ignore_case a.parser v) (kind_same a.parser)

values_same : (a : Rule) (vs : List Text) → values_fault (at_home a) vs ≡ values_fault a vs
values_same a [] = refl
values_same a (v ∷ vs) = ap₂ or_else (value_same a v) (values_same a vs)

count_same : (a : Rule) (vs : List Text) (rows : List Row) → count_fault (at_home a) vs rows ≡ count_fault a vs rows
count_same a [] rows = value_same a _
count_same a (v ∷ vs) rows = values_same a (v ∷ vs)

action_same : (action : ArgAction) (again : Bool) (a : Rule) (vs : List Text) (rows : List Row) → action_fault action again (at_home a) vs rows ≡ action_fault action again a vs rows
action_same Set again a vs rows = ap (or_else (repeat_fault again a.id rows)) (values_same a vs)
action_same SetTrue again a vs rows = ap (or_else (repeat_fault again a.id rows)) (values_same a vs)
action_same SetFalse again a vs rows = ap (or_else (repeat_fault again a.id rows)) (values_same a vs)
action_same Append again a vs rows = values_same a vs
action_same Count again a vs rows = count_same a vs rows
action_same other again a vs rows = refl

use_same : (again : Bool) (a : Rule) (values : List Text) (rows : List Row) → use_fault again (at_home a) values rows ≡ use_fault again a values rows
use_same again a values rows = ap (or_else (range_kinds (unwrap_or_range a.range).start_inclusive (most_values a) (length values)))
    (action_same (action_of a) again a (values_or_missing a values) rows)

one_default_same : (rows : List Row) (a : Rule) → default_fault rows (at_home a) ≡ default_fault rows a
one_default_same rows a = ap (λ (ks : Kinds). cond (has_row a.id rows || is_empty a.defaults) [] (or_else (request_kinds (action_of a)) ks)) (values_same a a.defaults)

defaults_same : (rows : List Row) (c : List Rule) → defaults_fault rows (all_at_home c) ≡ defaults_fault rows c
unfolding defaults_fault
defaults_same rows [] = refl
defaults_same rows (a ∷ c) = ap₂ or_else (one_default_same rows a) (ap (λ (r : List Row). defaults_fault r (all_at_home c)) (default_same rows a) ∙ defaults_same (with_default rows a) c)

any_same : (p : Rule → Bool) → ((a : Rule) → p (at_home a) ≡ p a) → (c : List Rule) → list_any p (all_at_home c) ≡ list_any p c
any_same p e [] = refl
any_same p e (a ∷ c) = ap₂ (λ x y. x || y) (e a) (any_same p e c)

module _ (c : List Rule) where
  settle_same : (again : Bool) (k : Held) → settle_fault (home c) again k ≡ settle_fault c again k
  settle_same again k = go k.pending
    where
      go : (o : Option (Text × List Text)) → option_map_or (λ p. option_map_or (λ a. use_fault again a p.1 k.rows) (arg_by_id (home c) p.0) []) o []
          ≡ option_map_or (λ p. option_map_or (λ a. use_fault again a p.1 k.rows) (arg_by_id c p.0) []) o []
      go None = refl
      go (Some p) = by_id c (λ o. option_map_or (λ a. use_fault again a p.1 k.rows) o []) (λ o. option_map_or (λ a. use_fault again a p.1 k.rows) o [])
          p.0 refl (λ a. use_same again a p.1 k.rows)

  react_same : (again : Bool) (a : Rule) (values : List Text) (k : Held) → react_fault (home c) again (at_home a) values k ≡ react_fault c again a values k
  react_same again a values k = ap₂ or_else (settle_same again k)
      (ap (use_fault again (at_home a) values) (settled_rows_same c k.pending k.rows) ∙ use_same again a values (settled_rows c k.pending k.rows))

  option_same : (again : Bool) (a : Rule) (v : Option Text) (k : Held) → option_fault (home c) again (at_home a) v k ≡ option_fault c again a v k
  option_same again a (Some v) k = react_same again a (v ∷ []) k
  option_same again a None k = settle_same again k

  long_at : (again : Bool) (v : Option Text) (k : Held) (a : Rule) → long_fault (home c) again (Some (at_home a)) v k ≡ long_fault c again (Some a) v k
  long_at again v k a = ap₂ (λ (x y : Kinds). cond (takes_values a) x (cond (is_some v) (kind.TooManyValues ∷ []) y)) (option_same again a v k) (react_same again a [] k)

  long_same : (again : Bool) (name : Text) (v : Option Text) (k : Held) → long_fault (home c) again (arg_by_long (home c) name) v k ≡ long_fault c again (arg_by_long c name) v k
  long_same again name v k = by_long c (λ o. long_fault (home c) again o v k) (λ o. long_fault c again o v k) name refl (long_at again v k)

  short_at : (again : Bool) (rest : Text) (k : Held) (F G : Held → Kinds) → ((j : Held) → F j ≡ G j) → (a : Rule)
      → short_fault (home c) again (Some (at_home a)) rest k F ≡ short_fault c again (Some a) rest k G
  short_at again rest k F G e a = ap₂ (λ (x y : Kinds). cond (takes_values a) x y) (option_same again a (attached_value rest) k)
      (ap₂ or_else (react_same again a [] k) (ap F (reacted_same c a [] k) ∙ e (reacted c a [] k)))

  bundle_step_same : (again : Bool) (o : Option ℕ) (flags : Text) (skip : ℕ) (k : Held) (F G : Text → ℕ → Held → Kinds)
      → ((t : Text) (n : ℕ) (j : Held) → F t n j ≡ G t n j) → bundle_step_fault (home c) again o flags skip k F ≡ bundle_step_fault c again o flags skip k G
  bundle_step_same again None flags skip k F G e = refl
  bundle_step_same again (Some x) flags zero k F G e =
      let rest = drop (length (encode_utf8 x)) flags in
      by_short c (λ o. short_fault (home c) again o rest k (F rest 0)) (λ o. short_fault c again o rest k (G rest 0)) x refl (short_at again rest k (F rest 0) (G rest 0) (e rest 0))
  bundle_step_same again (Some x) flags (suc skip) k F G e = e (drop (length (encode_utf8 x)) flags) skip k

  flags_same : (again : Bool) (n : ℕ) (flags : Text) (skip : ℕ) (k : Held) → flags_fault (home c) again n flags skip k ≡ flags_fault c again n flags skip k
  unfolding flags_fault
  flags_same again zero flags skip k = refl
  flags_same again (suc n) flags skip k =
      bundle_step_same again (slice_get (chars flags) 0) flags skip k (flags_fault (home c) again n) (flags_fault c again n) (flags_same again n)

  bundle_same : (again : Bool) (o : Option Text) (k : Held)
      → option_map_or (λ flags. bundle_fault (home c) again flags k) o [] ≡ option_map_or (λ flags. bundle_fault c again flags k) o []
  bundle_same again None k = refl
  bundle_same again (Some flags) k = flags_same again (length flags) flags k.skip (record k { skip = 0 })

  flag_word_same : (again : Bool) (o : Option (Text × Option Text)) (word : Text) (k : Held) → flag_word_fault (home c) again o word k ≡ flag_word_fault c again o word k
  flag_word_same again (Some p) word k = long_same again p.0 p.1 k
  flag_word_same again None word k = bundle_same again (short_of word) k

module _ (s : Shape) where
  abbrev there : Shape
  there = shape_at_home s

  other_same : (o : Option Text) (word : Text) (k : Held) → other_fault there o word k ≡ other_fault s o word k
  other_same (Some name) word k = refl
  other_same None word k = ap (λ ks. cond (bytes_eq word (45 ∷ 45 ∷ [])) [] ks) (flag_word_same s.rules s.args_override_self (long_of word) word k)

  step_same : (position : ℕ) (k : Held) (t : Step) → step_fault there position k t ≡ step_fault s position k t
  step_same position k (next waiting) = refl
  step_same position k (trailing p) = refl
  step_same position k (subcommand name) = refl
  step_same position k value = by_index s.rules (λ o. option_map_or (λ a. positional_fault (home s.rules) s.args_override_self a k) o (stray_fault s))
      (λ o. option_map_or (λ a. positional_fault s.rules s.args_override_self a k) o (stray_fault s)) position refl
      (λ a. ap (λ ks. cond (is_pending a k.pending && takes_several a) [] ks) (settle_same s.rules s.args_override_self k))

  turn_same : (w : Walk) (word : Text) → turn_fault there [] w word ≡ turn_fault s [] w word
  turn_same w word =
      let met : Held × Step = word_met s.rules [] w.is_trailing w.waiting w.position word w.held in
      ap₂ (λ (a b : Kinds). cond (is_some w.stopped) [] (or_else (cond w.is_trailing [] a) b)) (other_same (subcommand_met [] w.waiting word) word w.held)
      (ap (λ (m : Held × Step). step_fault there w.position m.0 m.1) (met_same s.rules w.is_trailing w.waiting w.position word w.held) ∙ step_same w.position met.0 met.1)

  walk_fault_same : (words : List Text) (w : Walk) → walk_fault there [] w words ≡ walk_fault s [] w words
  unfolding walk_fault
  walk_fault_same [] w = refl
  walk_fault_same (x ∷ xs) w = ap₂ or_else (turn_same w x)
      (ap (λ (v : Walk). walk_fault there [] v xs) (walked_same s.rules w x) ∙ walk_fault_same xs (walked s.rules [] w x))

  check_same : (rows : List Row) → check_fault there rows false ≡ check_fault s rows false
  check_same rows = ap (λ b. check_kinds (not false && (s.arg_required_else_help && not (list_any (λ r. explicit_source r.source) rows))) (not false && s.subcommand_required)
      (not (s.subcommand_negates_reqs && false) && b)) (any_same (λ a. a.required && not (is_given a.id rows)) (λ a. refl) s.rules)

  level_same : (words : List Text) → level_fault there [] nothing_held words false [] ≡ level_fault s [] nothing_held words false []
  level_same words =
      let end = walk_same s.rules words (walk_from nothing_held) in
      let at_end = (walk s.rules [] nothing_held words).held in
      let settled_end = settled_rows_same s.rules at_end.pending at_end.rows in
      ap₂ or_else (walk_fault_same words (walk_from nothing_held))
      (ap₂ or_else (ap (λ (w : Walk). settle_fault (home s.rules) s.args_override_self w.held) end ∙ settle_same s.rules s.args_override_self at_end)
      (ap₂ or_else (ap (λ (w : Walk). defaults_fault (settled (home s.rules) w.held).rows (home s.rules)) end
      ∙ ap (λ (rows : List Row). defaults_fault rows (home s.rules)) settled_end ∙ defaults_same (settled_rows s.rules at_end.pending at_end.rows) s.rules)
      (ap (λ (w : Walk). check_fault there (finished (home s.rules) w.held) false) end ∙ ap (λ (rows : List Row). check_fault there rows false) (finished_same s.rules at_end)
      ∙ check_same (finished s.rules at_end))))

entered_fault_same : (app : App) (stop : Option (Text × List Text)) → entered_fault (app_at_home app) stop ≡ entered_fault app stop
entered_fault_same app None = refl
entered_fault_same app (Some p) =
    let fault : Option Shape → Kinds = λ o. option_map_or (λ s. level_fault s [] nothing_held p.1 false []) o [] in
    seek_command fault fault p.0 refl (λ s. level_same s p.1) app.subs

pub fault_same : (games : Choices) → AreGames games → (words : List Text) → fault_of (app_with games) words ≡ fault_of rollduel_app words
fault_same games are_games words =
    let app = built (app_with games) in
    let args = drop 1 words in
    let stop = stop_after app.top.rules (names_of app) args in
    sym (ap₂ (λ b ks. level_fault app.top (names_of app) nothing_held args b ks) (ap (λ (o : Option (Text × List Row)). is_some o) (entered_same app stop)) (entered_fault_same app stop))
    ∙ ap (λ (a : App). fault_of a words) (is_program games are_games)
