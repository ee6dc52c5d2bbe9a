-- Where the texts that an option takes stand in memory doesn't change which words are taken.
use Rattle.std.proofs.Common.{◌≡◌, ◌∙◌, ◌&&◌, ◌||◌, ap, ap₂, cond, refl, sym, is_some, length, drop, ℕ, zero, suc, Bool, true, false, not, List, [], ◌∷◌, Option, Some, None}
use Rattle.std.specs.Prelude.{encode_utf8, nat_le, slice_get}
use Rattle.std.specs.List.{list_all, list_any}
use Rattle.std.specs.Option.{option_map_or}
use Rattle.std.specs.Str.{bytes_eq, chars}
use Rattle.clap.specs.Facts.{explicit_source, unwrap_or_range}
use Rattle.clap.specs.Lexer.{long_of, short_of}
use Rattle.clap.specs.Simple.{App, Shape, built, names_of}
use Rattle.clap.specs.Takes.{action_passes, bundle_passes, bundle_step_passes, count_passes, default_passes, entered_passes, flag_word_passes, flags_pass, is_given, is_valid, level_passes, long_passes, option_passes, other_passes, positional_passes}
use Rattle.clap.specs.Takes.{react_passes, settle_passes, short_passes, step_passes, takes, turn_passes, use_passes, value_passes, values_pass, walk_passes}
use Rattle.clap.specs.Values.{is_request}
use Rattle.clap.specs.Walk.{Held, Row, Rule, Step, Text, Walk, action_of, arg_by_id, arg_by_long, attached_value, finished, has_row, is_empty, is_pending, most_values}
use Rattle.clap.specs.Walk.{next, nothing_held, reacted, settled_rows, stop_after, subcommand, subcommand_met, takes_several, takes_values, trailing, value, values_or_missing, walk, walk_from, walked, word_met}
use Rattle.clap.specs.declared.builder.action.ArgAction.{ArgAction}
use Rattle.clap.specs.declared.builder.action.ArgAction.TheVariants.{Set, Append, SetTrue, SetFalse, Count}
use Rattle.prog_command_line.proofs.Places.{accepts_same, all_at_home, app_at_home, at_home, by_id, by_index, by_long, by_short, entered_same, finished_same, home, is_program, met_same, reacted_same, seek_command, settled_rows_same, shape_at_home, walk_same, walked_same}
use Rattle.prog_command_line.specs.Commands.{AreGames, Choices, app_with, rollduel_app}

value_same : (a : Rule) (v : Text) → value_passes (at_home a) v ≡ value_passes a v
value_same a v = accepts_same a.ignore_case a.parser v

values_same : (a : Rule) (vs : List Text) → values_pass (at_home a) vs ≡ values_pass a vs
values_same a [] = refl
values_same a (v ∷ vs) = ap₂ (λ x y. x && y) (value_same a v) (values_same a vs)

count_same : (a : Rule) (vs : List Text) (rows : List Row) → count_passes (at_home a) vs rows ≡ count_passes a vs rows
count_same a [] rows = value_same a _
count_same a (v ∷ vs) rows = values_same a (v ∷ vs)

action_same : (action : ArgAction) (again : Bool) (a : Rule) (vs : List Text) (rows : List Row) → action_passes action again (at_home a) vs rows ≡ action_passes action again a vs rows
action_same Set again a vs rows = ap (λ b. (not (has_row a.id rows) || again) && b) (values_same a vs)
action_same SetTrue again a vs rows = ap (λ b. (not (has_row a.id rows) || again) && b) (values_same a vs)
action_same SetFalse again a vs rows = ap (λ b. (not (has_row a.id rows) || again) && b) (values_same a vs)
action_same Append again a vs rows = values_same a vs
action_same Count again a vs rows = count_same a vs rows
action_same other again a vs rows = refl

use_same : (again : Bool) (a : Rule) (values : List Text) (rows : List Row) → use_passes again (at_home a) values rows ≡ use_passes again a values rows
use_same again a values rows = ap (λ b. nat_le (unwrap_or_range a.range).start_inclusive (length values) && (nat_le (length values) (most_values a) && b))
    (action_same (action_of a) again a (values_or_missing a values) rows)

default_same : (a : Rule) → default_passes (at_home a) ≡ default_passes a
default_same a = ap (λ b. is_empty a.defaults || (not (is_request (action_of a)) && b)) (values_same a a.defaults)

all_same : (p : Rule → Bool) → ((a : Rule) → p (at_home a) ≡ p a) → (c : List Rule) → list_all p (all_at_home c) ≡ list_all p c
all_same p e [] = refl
all_same p e (a ∷ c) = ap₂ (λ x y. x && y) (e a) (all_same p e c)

module _ (c : List Rule) where
  settle_same : (again : Bool) (k : Held) → settle_passes (home c) again k ≡ settle_passes c again k
  settle_same again k = go k.pending
    where
      go : (o : Option (Text × List Text)) → option_map_or (λ p. option_map_or (λ a. use_passes again a p.1 k.rows) (arg_by_id (home c) p.0) true) o true
          ≡ option_map_or (λ p. option_map_or (λ a. use_passes again a p.1 k.rows) (arg_by_id c p.0) true) o true
      go None = refl
      go (Some p) = by_id c (λ o. option_map_or (λ a. use_passes again a p.1 k.rows) o true) (λ o. option_map_or (λ a. use_passes again a p.1 k.rows) o true)
          p.0 refl (λ a. use_same again a p.1 k.rows)

  react_same : (again : Bool) (a : Rule) (values : List Text) (k : Held) → react_passes (home c) again (at_home a) values k ≡ react_passes c again a values k
  react_same again a values k = ap₂ (λ x y. x && y) (settle_same again k)
      (ap (use_passes again (at_home a) values) (settled_rows_same c k.pending k.rows) ∙ use_same again a values (settled_rows c k.pending k.rows))

  option_same : (again : Bool) (a : Rule) (v : Option Text) (k : Held) → option_passes (home c) again (at_home a) v k ≡ option_passes c again a v k
  option_same again a (Some v) k = react_same again a (v ∷ []) k
  option_same again a None k = settle_same again k

  long_at : (again : Bool) (v : Option Text) (k : Held) (a : Rule) → long_passes (home c) again (Some (at_home a)) v k ≡ long_passes c again (Some a) v k
  long_at again v k a = ap₂ (λ x y. cond (takes_values a) x (not (is_some v) && y)) (option_same again a v k) (react_same again a [] k)

  long_same : (again : Bool) (name : Text) (v : Option Text) (k : Held) → long_passes (home c) again (arg_by_long (home c) name) v k ≡ long_passes c again (arg_by_long c name) v k
  long_same again name v k = by_long c (λ o. long_passes (home c) again o v k) (λ o. long_passes c again o v k) name refl (long_at again v k)

  short_at : (again : Bool) (rest : Text) (k : Held) (F G : Held → Bool) → ((j : Held) → F j ≡ G j) → (a : Rule)
      → short_passes (home c) again (Some (at_home a)) rest k F ≡ short_passes c again (Some a) rest k G
  short_at again rest k F G e a = ap₂ (λ x y. cond (takes_values a) x y) (option_same again a (attached_value rest) k)
      (ap₂ (λ x y. x && y) (react_same again a [] k) (ap F (reacted_same c a [] k) ∙ e (reacted c a [] k)))

  bundle_step_same : (again : Bool) (o : Option ℕ) (flags : Text) (skip : ℕ) (k : Held) (F G : Text → ℕ → Held → Bool)
      → ((t : Text) (n : ℕ) (j : Held) → F t n j ≡ G t n j) → bundle_step_passes (home c) again o flags skip k F ≡ bundle_step_passes c again o flags skip k G
  bundle_step_same again None flags skip k F G e = refl
  bundle_step_same again (Some x) flags zero k F G e =
      let rest = drop (length (encode_utf8 x)) flags in
      by_short c (λ o. short_passes (home c) again o rest k (F rest 0)) (λ o. short_passes c again o rest k (G rest 0)) x refl (short_at again rest k (F rest 0) (G rest 0) (e rest 0))
  bundle_step_same again (Some x) flags (suc skip) k F G e = e (drop (length (encode_utf8 x)) flags) skip k

  flags_same : (again : Bool) (n : ℕ) (flags : Text) (skip : ℕ) (k : Held) → flags_pass (home c) again n flags skip k ≡ flags_pass c again n flags skip k
  unfolding flags_pass
  flags_same again zero flags skip k = refl
  flags_same again (suc n) flags skip k =
      bundle_step_same again (slice_get (chars flags) 0) flags skip k (flags_pass (home c) again n) (flags_pass c again n) (flags_same again n)

  bundle_same : (again : Bool) (o : Option Text) (k : Held)
      → option_map_or (λ flags. bundle_passes (home c) again flags k) o true ≡ option_map_or (λ flags. bundle_passes c again flags k) o true
  bundle_same again None k = refl
  bundle_same again (Some flags) k = flags_same again (length flags) flags k.skip (record k { skip = 0 })

  pub flag_word_same : (again : Bool) (o : Option (Text × Option Text)) (word : Text) (k : Held)
      → flag_word_passes (home c) again o word k ≡ flag_word_passes c again o word k
  flag_word_same again (Some p) word k = long_same again p.0 p.1 k
  flag_word_same again None word k = bundle_same again (short_of word) k

module _ (s : Shape) where
  abbrev there : Shape
  there = shape_at_home s

  other_same : (o : Option Text) (word : Text) (k : Held) → other_passes there o word k ≡ other_passes s o word k
  other_same (Some name) word k = refl
  other_same None word k = ap (λ b. bytes_eq word (45 ∷ 45 ∷ []) || b) (flag_word_same s.rules s.args_override_self (long_of word) word k)

  step_same : (position : ℕ) (k : Held) (t : Step) → step_passes there position k t ≡ step_passes s position k t
  step_same position k (next waiting) = refl
  step_same position k (trailing p) = refl
  step_same position k (subcommand name) = refl
  step_same position k value = by_index s.rules (λ o. option_map_or (λ a. positional_passes (home s.rules) s.args_override_self a k) o false)
      (λ o. option_map_or (λ a. positional_passes s.rules s.args_override_self a k) o false) position refl
      (λ a. ap (λ b. (is_pending a k.pending && takes_several a) || b) (settle_same s.rules s.args_override_self k))

  turn_same : (w : Walk) (word : Text) → turn_passes there [] w word ≡ turn_passes s [] w word
  turn_same w word =
      let met : Held × Step = word_met s.rules [] w.is_trailing w.waiting w.position word w.held in
      ap₂ (λ a b. is_some w.stopped || ((w.is_trailing || a) && b)) (other_same (subcommand_met [] w.waiting word) word w.held)
      (ap (λ (m : Held × Step). step_passes there w.position m.0 m.1) (met_same s.rules w.is_trailing w.waiting w.position word w.held) ∙ step_same w.position met.0 met.1)

  walk_passes_same : (words : List Text) (w : Walk) → walk_passes there [] w words ≡ walk_passes s [] w words
  unfolding walk_passes
  walk_passes_same [] w = refl
  walk_passes_same (x ∷ xs) w = ap₂ (λ a b. a && b) (turn_same w x)
      (ap (λ (v : Walk). walk_passes there [] v xs) (walked_same s.rules w x) ∙ walk_passes_same xs (walked s.rules [] w x))

  valid_same : (rows : List Row) → is_valid there rows false ≡ is_valid s rows false
  valid_same rows = ap₂ (λ x y. (not s.arg_required_else_help || (false || list_any (λ r. explicit_source r.source) rows)) && ((not s.subcommand_required || false) && (x && ((s.subcommand_negates_reqs && false) || y))))
      (all_same (λ a. a.is_free) (λ a. refl) s.rules) (all_same (λ a. not a.required || is_given a.id rows) (λ a. refl) s.rules)

  pub level_same : (words : List Text) → level_passes there [] nothing_held words false ≡ level_passes s [] nothing_held words false
  level_same words =
      let end = walk_same s.rules words (walk_from nothing_held) in
      let at_end = (walk s.rules [] nothing_held words).held in
      ap₂ (λ a b. a && b) (walk_passes_same words (walk_from nothing_held))
      (ap₂ (λ a b. a && b) (ap (λ (w : Walk). settle_passes (home s.rules) s.args_override_self w.held) end ∙ settle_same s.rules s.args_override_self at_end)
      (ap₂ (λ a b. a && b) (all_same default_passes default_same s.rules)
      (ap (λ (w : Walk). is_valid there (finished (home s.rules) w.held) false) end ∙ ap (λ (rows : List Row). is_valid there rows false) (finished_same s.rules at_end)
      ∙ valid_same (finished s.rules at_end))))

entered_takes_same : (app : App) (stop : Option (Text × List Text)) → entered_passes (app_at_home app) stop ≡ entered_passes app stop
entered_takes_same app None = refl
entered_takes_same app (Some p) =
    let passes : Option Shape → Bool = λ o. option_map_or (λ s. level_passes s [] nothing_held p.1 false) o true in
    seek_command passes passes p.0 refl (λ s. level_same s p.1) app.subs

pub takes_same : (games : Choices) → AreGames games → (words : List Text) → takes (app_with games) words ≡ takes rollduel_app words
takes_same games are_games words =
    let app = built (app_with games) in
    let args = drop 1 words in
    let stop = stop_after app.top.rules (names_of app) args in
    sym (ap₂ (λ a b. a && level_passes app.top (names_of app) nothing_held args b) (entered_takes_same app stop)
    (ap (λ (o : Option (Text × List Row)). is_some o) (entered_same app stop)))
    ∙ ap (λ (a : App). takes a words) (is_program games are_games)
