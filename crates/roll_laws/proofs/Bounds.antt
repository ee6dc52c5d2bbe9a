-- Bounds that hold of every core: of paths, queues, frames and entries.
use Rattle.std.proofs.Common.{◌≡◌, ℕ, suc, ◌+◌, ◌-◌, ◌<◌, ◌≤◌, List, [], ◌∷◌, length, refl, ap, sym, ◌∙◌, Bool, true, false, arith, inl, inr, map, min, length-take, Option, None}
use Rattle.std.specs.Prelude.{not, nat_lt, ◌&&◌, if◌then◌else◌}
use Rattle.std.specs.List.{list_any}
use Rattle.std.proofs.lemmas.Bool.{false≢true, cases_Bool, or_parts, leb-false, ltb-false}
use Rattle.roll_frame.specs.Cells.{Rows}
use Rattle.roll_frame.specs.Core.{Core, first_core, is_possible, settled, kept, depth, rolled_paths}
use Rattle.roll_frame.specs.Events.{CoreEvent, tests_of, added_by, applied, played_from, played}
use Rattle.roll_frame.specs.Games.{Game, Value}
use Rattle.roll_frame.specs.Grafts.{Branch, whole_of, anchor_length, new_paths}
use Rattle.roll_frame.specs.Inputs.{with_none_given}
use Rattle.roll_frame.specs.Paths.{prefixes, contains}
use Rattle.roll_frame.specs.Settings.{first_player, start_tests, start_refusal, places, first_players, delay_at}
use Rattle.roll_frame.proofs.FirstWords.{long_first}
use Rattle.roll_frame.specs.Timeline.{Player, timeline}
use Rattle.roll_frame.specs.declared.entry.Entry.{Entry}
use Rattle.roll_frame.specs.declared.limits.TheConstants.{DELAY_LIMIT}
use Rattle.roll_frame.specs.declared.settings.Settings.{Settings}
use Rattle.roll_frame.proofs.Timelines.{length_timeline}
use Rattle.roll_frame.proofs.Refused.{AllFail, all_fail}
use Rattle.roll_laws.specs.Laws.{Always, KeptAreShort, QueuesAreShort, FramesEnd, LogEnds, PlayersStay}
use Rattle.std.proofs.lemmas.List.FromFn.{length-map-range_with_len}
use Rattle.roll_laws.proofs.Ahead.{AllLater}
use Rattle.roll_laws.proofs.Saved.{In, in_either, has_in}
use Rattle.roll_laws.proofs.Fronts.{settled_onward}
use Rattle.roll_laws.proofs.Accepted.{events_keep, Each, each_weaker, each_at, changed_each}
use Rattle.roll_laws.proofs.Effects.{given_count, Moves, rests, changes, begins, Adds, rolls, grafts, effect_of, told_by}
use Rattle.roll_laws.proofs.Prefixes.{in_prefixes, in_filter}
use Rattle.roll_laws.proofs.Starts.{small_threshold}
use Rattle.roll_laws.proofs.Sound.{Sound, local_given, staying, step, steps, first_sound, first_given, in_kept, none_given}

-- how many words a player has, with these rows settled and at this frame: a remote one at most 128 more than are settled, a
-- local one its delay, the frame, and one if it was given
abbrev HasFew : ℕ → ℕ → Player → Type 0
HasFew base frame p = (p.local ≡ false → length p.words ≤ base + 128) × (p.local ≡ true → length p.words ≤ frame + 8 + given_count p)

pub record Bounded (settings : Settings) (core : Core) : Type 0 where
  pub short : (q : Rows) → In q core.ever → length q ≤ settled core + 24
  pub queues : Each (HasFew (settled core) core.frame) core.players
  pub frames : core.frame ≤ settings.limit
  pub below : Each (λ p. p.given ≡ true → core.frame < settings.limit) core.players
  pub entries : core.logged ≤ settings.log

given_once : (p : Player) → given_count p ≤ 1
given_once p = go p.given
  where
    go : (b : Bool) → (if b then 1 else 0) ≤ 1
    go true = omega arith
    go false = omega arith

rolled_short : (core : Core) (m j : ℕ) (q : Rows) → In q (rolled_paths core m j) → length q ≤ m
rolled_short core m j q i =
    let r = in_prefixes q (timeline core.players m) (depth core m) j i in
    let n : ℕ = r.0 in
    let long : length q ≡ min n (length (timeline core.players m)) = ap length r.3 ∙ length-take n (timeline core.players m) in
    omega (arith, length_timeline core.players m)

grafted_short : (core : Core) (branch : Branch) (q : Rows) → In q (new_paths core branch) → length q ≤ length (whole_of core branch)
grafted_short core branch q i =
    let w = whole_of core branch in
    let a = anchor_length core branch in
    let f = in_filter (λ p. is_possible core.players p && not (contains (kept core) p)) q (prefixes w a (length w - a)) i in
    let r = in_prefixes q w a (length w - a) f.0 in
    let n : ℕ = r.0 in
    let long : length q ≡ min n (length w) = ap length r.3 ∙ length-take n w in
    omega arith

added_short : (settings : Settings) (core : Core) (more : List Rows) (q : Rows) → settings.threshold ≤ 15 → Sound settings core → Adds settings core more
    → In q more → length q ≤ settled core + 24
added_short settings core more q small s (rolls to made high few) i = omega (arith, s.lag, small, high, rolled_short core to made q i)
added_short settings core more q small s (grafts branch short anchored room) i = omega (arith, short, grafted_short core branch q i)

few_next : (base frame : ℕ) (ps : List Player) → Each (HasFew base frame) ps → Each (HasFew base (frame + 1)) (map with_none_given ps)
few_next base frame [] h = tt
few_next base frame (p ∷ ps) h = ((h.0.0, λ l. omega (arith, h.0.1 l, given_once p)), few_next base frame ps h.1)

moved_bounded : (settings : Settings) (core : Core) (players : List Player) (frame : ℕ) (more : List Rows) (told : Option (ℕ × ℕ))
    → Sound settings core → Bounded settings core → Moves settings core players frame more told
    → Each (HasFew (settled core) frame) players × (frame ≤ settings.limit) × Each (λ p. p.given ≡ true → frame < settings.limit) players
moved_bounded settings core players frame more told s b (rests added) = (b.queues, b.frames, b.below)
moved_bounded settings core players frame more told s b (changes change p x word e words plays) = (
  changed_each (HasFew (settled core) core.frame) change core.players p x e
      (λ few. (
        λ r. let remote : x.local ≡ false = sym plays.same_local ∙ r in plays.few remote (few.0 remote),
        λ l. let local : x.local ≡ true = sym plays.same_local ∙ l in omega (arith, plays.gains local, few.1 local),
      ))
      b.queues,
  b.frames,
  changed_each (λ p. p.given ≡ true → core.frame < settings.limit) change core.players p x e
      (λ below g. elim (plays.given g) [ inl before ↦ below before | inr now ↦ omega (arith, b.frames, now.1) ])
      b.below,
)
moved_bounded settings core players frame more told s b (begins all) =
    let below : core.frame < settings.limit = local_given (core.frame < settings.limit) core.players s.has_local all b.below in
    (few_next (settled core) core.frame core.players b.queues, omega arith, none_given _ core.players (λ p g. absurd (false≢true g)))

pub bounded_step : (settings : Settings) (game : Game) (core : Core) (from : Value) (entry : Entry) → settings.threshold ≤ 15 → Sound settings core → Bounded settings core → AllFail (tests_of settings game core from entry) → core.logged < settings.log → settled core ≤ settled (applied core entry) → Bounded settings (applied core entry)
bounded_step settings game core from entry small s b h room f =
    let e = effect_of settings game core from entry h in
    let new : Core = applied core entry in
    let moved = moved_bounded settings core new.players new.frame (added_by core entry) (told_by entry) s b e.moves in
    record {
      short = λ q i. elim (in_either q core.ever (added_by core entry) i) [ inl old ↦ omega (arith, b.short q old, f) | inr added ↦ omega (arith, added_short settings core (added_by core entry) q small s e.adds added, f) ];
      queues = each_weaker (HasFew (settled core) new.frame) (HasFew (settled new) new.frame) new.players (λ p few. (λ r. omega (arith, few.0 r, f), few.1)) moved.0;
      frames = moved.1;
      below = moved.2;
      entries = omega arith;
    }

abbrev Both : Settings → Core → Type 0
Both settings core = Sound settings core × Bounded settings core

bounded_steps : (settings : Settings) (game : Game) (core : Core) (events : List CoreEvent) → settings.threshold ≤ 15 → Both settings core → Both settings (played_from settings game core events)
bounded_steps settings game core events small =
    events_keep settings game (Both settings)
    (λ old event a b.
    let good = step settings game old event.value event.entry b.0 a.0 in
    let f : settled old ≤ settled (applied old event.entry) = settled_onward old (applied old event.entry) good.0 b.0.root (staying _ good.1.stays good.1.has_local) in
    (good.1, bounded_step settings game old event.value event.entry small b.0 b.1 a.0 (leb-false settings.log old.logged a.1) f))
    core events

first_few : (base frame : ℕ) (settings : Settings) (ps : List ℕ) → list_any (λ place. nat_lt 8 (delay_at settings place)) ps ≡ false → Each (HasFew base frame) (map (first_player settings) ps)
first_few base frame settings [] h = tt
first_few base frame settings (p ∷ ps) h =
    let both = or_parts (nat_lt 8 (delay_at settings p)) (list_any (λ place. nat_lt 8 (delay_at settings place)) ps) h in
    let d : delay_at settings p ≤ 8 = ltb-false 8 (delay_at settings p) both.0 in
    let n : length (first_player settings p).words ≡ delay_at settings p = long_first settings p in
    ((λ e. omega arith, λ e. omega arith), first_few base frame settings ps both.1)

pub first_bounded : (settings : Settings) → start_refusal settings ≡ None → Bounded settings (first_core settings)
first_bounded settings h =
    let tests = all_fail (start_tests settings) h in
    record {
      short = λ q i. first_short q i;
      queues = first_few (settled (first_core settings)) 0 settings (places settings) tests.1.1.1.0;
      frames = omega arith;
      below = first_given (0 < settings.limit) settings (places settings);
      entries = omega arith;
    }
  where
    first_short : (q : Rows) → In q ([] ∷ []) → length q ≤ settled (first_core settings) + 24
    first_short q (inl e) = omega (arith, ap length e)
    first_short q (inr i) = absurd i

pub bounded_played : Always Both
bounded_played settings game events h = bounded_steps settings game (first_core settings) events (small_threshold settings h) (first_sound settings h, first_bounded settings h)

pub kept_are_short : KeptAreShort
kept_are_short settings game events h path e =
    let core = played settings game events in
    (bounded_played settings game events h).1.short path (in_kept core path (has_in (kept core) path e))

pub queues_are_short : QueuesAreShort
queues_are_short settings game events h place player e =
    let core : Core = played settings game events in
    let b = bounded_played settings game events h in
    let few = each_at (HasFew (settled core) core.frame) core.players place player e b.1.queues in
    let most : player.local ≡ true → length player.words ≤ settled core + settings.threshold + DELAY_LIMIT + 1 =
    λ l. omega (arith, few.1 l, given_once player, b.0.lag) in
    (elim (cases_Bool player.local) [ inl l ↦ omega (arith, most l, small_threshold settings h) | inr r ↦ few.0 r ], most)

pub frames_end : FramesEnd
frames_end settings game events h = (bounded_played settings game events h).1.frames

pub log_ends : LogEnds
log_ends settings game events h = (bounded_played settings game events h).1.entries

pub as_many : (olds news : List Player) → AllLater olds news → length news ≡ length olds
as_many [] [] l = refl
as_many [] (y ∷ ys) l = absurd l
as_many (x ∷ xs) [] l = absurd l
as_many (x ∷ xs) (y ∷ ys) l = ap suc (as_many xs ys l.1)

pub players_first : (settings : Settings) → length (first_players settings) ≡ settings.players
players_first settings = length-map-range_with_len (first_player settings) 0 settings.players

pub players_stay : PlayersStay
players_stay settings game events h =
    as_many (first_core settings).players (played settings game events).players (steps settings game (first_core settings) events (first_sound settings h)).0.players
    ∙ players_first settings
