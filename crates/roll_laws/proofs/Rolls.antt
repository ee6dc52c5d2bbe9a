-- Each roll of a session is fair, so its claim is right.
use Rattle.std.proofs.Common.{◌≡◌, ℕ, suc, ◌+◌, ◌≤◌, List, [], ◌∷◌, length, refl, ap, sym, ◌∙◌, arith, Option, Some, None, subst}
use Rattle.std.proofs.lemmas.Bool.{leb-false}
use Rattle.roll_frame.specs.Cells.{Rows}
use Rattle.roll_frame.specs.Core.{Roll, Core, first_core, settled, kept, depth}
use Rattle.roll_frame.specs.Events.{CoreEvent, played, applied, played_from}
use Rattle.roll_frame.specs.Games.{Game}
use Rattle.roll_frame.specs.Settings.{start_refusal}
use Rattle.roll_frame.specs.Timeline.{Player, timeline}
use Rattle.roll_frame.specs.declared.row.Cell.{Cell}
use Rattle.roll_frame.specs.declared.settings.Settings.{Settings}
use Rattle.roll_frame.proofs.Timelines.{length_timeline}
use Rattle.roll_laws.specs.Laws.{Always, ClaimsAreRight, ClaimsNameLeast}
use Rattle.roll_laws.proofs.Known.{RowFits, Fits, fits, on_time_fits}
use Rattle.roll_laws.proofs.Saved.{In, has_in, in_has, take_timeline, timeline_on_time}
use Rattle.roll_laws.proofs.Fronts.{depth_is, depth_at_least, settled_is, settled_onward}
use Rattle.roll_laws.proofs.Accepted.{events_keep}
use Rattle.roll_laws.proofs.Effects.{Shows, keeps, reaches, cuts_short, effect_of}
use Rattle.roll_laws.proofs.Starts.{starts_are_small, few_players, small_threshold}
use Rattle.roll_laws.proofs.Sound.{Sound, step, staying, first_sound}
use Rattle.roll_laws.proofs.KeptPaths.{live, kept_settled, start_kept}
use Rattle.roll_laws.proofs.Logs.{deeper_diverge}
use Rattle.roll_laws.proofs.Bounds.{Bounded, bounded_step, as_many, first_bounded, players_first}
use Rattle.roll_laws.proofs.Fair.{Wide, IsFair, fair_is_right, fair_is_least}

row_wide : (t : ℕ) (ps : List Player) (row : List Cell) → RowFits t ps row → length row ≡ length ps
row_wide t [] [] h = refl
row_wide t [] (c ∷ cs) h = absurd h
row_wide t (p ∷ ps) [] h = absurd h
row_wide t (p ∷ ps) (c ∷ cs) h = ap suc (row_wide t ps cs h.1)

fits_wide : (t : ℕ) (ps : List Player) (q : Rows) → Fits t ps q → Wide (length ps) q
fits_wide t ps [] h = tt
fits_wide t ps (row ∷ rows) h = (row_wide t ps row h.0, fits_wide (suc t) ps rows h.1)

-- the roll to m
abbrev pub roll_of : Core → ℕ → Roll
roll_of core m = record { from = depth core m; time = timeline core.players m; settled = settled core; kept = kept core }

abbrev Small : Settings → Core → Type 0
Small settings core = (1 ≤ length core.players) × (length core.players ≤ 8) × (settings.threshold ≤ 15) × (settings.limit ≤ 1048576)

roll_fair : (settings : Settings) (core : Core) (m : ℕ) → Sound settings core → Bounded settings core → Small settings core → core.frame ≤ m → m ≤ core.frame + 1 → IsFair (length core.players) (roll_of core m)
roll_fair settings core m s b small l u =
    let d = depth_is core m s.root in
    let f = settled_is core s.root in
    let low : settled core ≤ depth core m = depth_at_least core m (settled core) (omega (arith, f.0)) f.1 in
    record {
      some = small.0;
      few = small.1;
      low = low;
      top = omega (arith, d.0, length_timeline core.players m);
      lag = omega (arith, s.lag, small.2, length_timeline core.players m);
      base = omega (arith, f.0, b.frames, small.3);
      rows = fits_wide 0 core.players (timeline core.players m) (on_time_fits 0 core.players (timeline core.players m) (timeline_on_time core.players m));
      start = subst (λ (q : Rows). In q (kept core)) (sym (take_timeline core.players (depth core m) m d.0)) (has_in (kept core) (timeline core.players (depth core m)) (start_kept settings core m s l));
      kept_rows = λ q i. fits_wide 0 core.players q (fits 0 core.players q (live core q (in_has (kept core) q i)).2);
      kept_low = λ q i. (live core q (in_has (kept core) q i)).1;
      kept_settled = λ q i. kept_settled settings core q s (in_has (kept core) q i) ∙ sym (take_timeline core.players (settled core) m (omega (arith, low, d.0)));
      kept_off = λ q i a c. deeper_diverge core m q (in_has core.ever q (live core q (in_has (kept core) q i)).0) a;
    }

pub record Fine (settings : Settings) (core : Core) : Type 0 where
  pub sound : Sound settings core
  pub bounded : Bounded settings core
  pub players : length core.players ≡ settings.players
  pub rolls : (roll : Roll) → core.last ≡ Some roll → IsFair settings.players roll

same_roll : (a b : Roll) → Some a ≡ Some b → a ≡ b
same_roll a b e = cc

no_roll : (a : Roll) → None ≡ Some a → ⊥
no_roll a e = cc

fine_roll : (settings : Settings) (core : Core) (shown : Option Rows) (last : Option Roll) → Fine settings core → Small settings core → Shows core shown last
    → (roll : Roll) → last ≡ Some roll → IsFair settings.players roll
fine_roll settings core shown last f small keeps roll e = f.rolls roll e
fine_roll settings core shown last f small (reaches to low high) roll e =
    subst (IsFair settings.players) (same_roll (roll_of core to) roll e)
    (subst (λ (n : ℕ). IsFair n (roll_of core to)) f.players (roll_fair settings core to f.sound f.bounded small low high))
fine_roll settings core shown last f small cuts_short roll e = absurd (no_roll roll e)

fine_steps : (settings : Settings) (game : Game) (core : Core) (events : List CoreEvent) → start_refusal settings ≡ None → Fine settings core → Fine settings (played_from settings game core events)
fine_steps settings game core events h =
    let small = starts_are_small settings h in
    let few : settings.players ≤ 8 = few_players settings h in
    let near : settings.threshold ≤ 15 = small_threshold settings h in
    events_keep settings game (Fine settings)
    (λ old event a f.
    let new : Core = applied old event.entry in
    let good = step settings game old event.value event.entry f.sound a.0 in
    let up : settled old ≤ settled new = settled_onward old new good.0 f.sound.root (staying _ good.1.stays good.1.has_local) in
    let sizes : Small settings old = (omega (arith, f.players, small.some_players), omega (arith, f.players), near, omega (arith, small.few_frames)) in
    record {
      sound = good.1;
      bounded = bounded_step settings game old event.value event.entry near f.sound f.bounded a.0 (leb-false settings.log old.logged a.1) up;
      players = as_many old.players new.players good.0.players ∙ f.players;
      rolls = fine_roll settings old new.shown new.last f sizes (effect_of settings game old event.value event.entry a.0).shows;
    })
    core events

fine_played : (settings : Settings) (game : Game) (events : List CoreEvent) → start_refusal settings ≡ None → Fine settings (played settings game events)
fine_played settings game events h =
    fine_steps settings game (first_core settings) events h
    (record { sound = first_sound settings h; bounded = first_bounded settings h; players = players_first settings; rolls = λ r n. absurd (no_roll r n) })

-- the last roll is fair
pub last_is_fair : Always (λ settings core. (roll : Roll) → core.last ≡ Some roll → IsFair settings.players roll)
last_is_fair settings game events h = (fine_played settings game events h).rolls

-- so is the next one
pub next_is_fair : Always (λ settings core. (m : ℕ) → core.frame ≤ m → m ≤ core.frame + 1 → IsFair settings.players (roll_of core m))
next_is_fair settings game events h m low high =
    let core = played settings game events in
    let f = fine_played settings game events h in
    let small = starts_are_small settings h in
    let few : settings.players ≤ 8 = few_players settings h in
    let near : settings.threshold ≤ 15 = small_threshold settings h in
    subst (λ (n : ℕ). IsFair n (roll_of core m)) f.players
    (roll_fair settings core m f.sound f.bounded (omega (arith, f.players, small.some_players), omega (arith, f.players), near, omega (arith, small.few_frames)) low high)

pub claims_are_right : ClaimsAreRight
claims_are_right settings game events h roll e = fair_is_right settings.players roll (last_is_fair settings game events h roll e)

pub claims_name_least : ClaimsNameLeast
claims_name_least settings game events h roll e = fair_is_least settings.players roll (last_is_fair settings game events h roll e)
