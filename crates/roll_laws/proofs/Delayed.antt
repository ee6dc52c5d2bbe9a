-- A local player's confirmed words: one for each frame of its delay, for each frame before this one, and for this one if it was given.
use Rattle.std.proofs.Common.{◌≡◌, ℕ, zero, suc, ◌+◌, ◌-◌, List, [], ◌∷◌, length, refl, ap, sym, ◌∙◌, Bool, true, false, arith, subst, map, set, Option, Some, None}
use Rattle.std.specs.Prelude.{not, ◌&&◌, slice_get, if◌then◌else◌}
use Rattle.std.specs.List.{list_any, range_with_len}
use Rattle.std.proofs.lemmas.Bool.{false≢true, not-true, or_parts}
use Rattle.roll_frame.specs.Cells.{Rows}
use Rattle.roll_frame.specs.Core.{Core, first_core}
use Rattle.roll_frame.specs.Events.{CoreEvent, played_from}
use Rattle.roll_frame.specs.Games.{Game}
use Rattle.roll_frame.specs.Inputs.{player_at, changed, with_none_given}
use Rattle.roll_frame.specs.Settings.{delay_at, first_player}
use Rattle.roll_frame.proofs.FirstWords.{long_first}
use Rattle.roll_frame.specs.Timeline.{Player}
use Rattle.roll_frame.specs.declared.settings.Settings.{Settings}
use Rattle.roll_laws.specs.Laws.{LocalWordsAreDelayed}
use Rattle.roll_laws.proofs.Accepted.{events_keep, at_place, changed_is}
use Rattle.roll_laws.proofs.Effects.{Moves, rests, changes, begins, effect_of}

-- a fact of each player and its place, counted from 0
abbrev EachAt : (ℕ → Player → Type 0) → List Player → Type 0
EachAt P [] = Unit {0}
EachAt P (p ∷ ps) = P 0 p × EachAt (λ i. P (suc i)) ps

get_at : (P : ℕ → Player → Type 0) (ps : List Player) (i : ℕ) (x : Player) → slice_get ps i ≡ Some x → EachAt P ps → P i x
get_at P [] i x e h = let no : None ≡ Some x = e in absurd (cc no)
get_at P (p ∷ ps) zero x e h = subst (P 0) (the p x e) h.0
  where
    the : (a b : Player) → Some a ≡ Some b → a ≡ b
    the a b f = cc
get_at P (p ∷ ps) (suc i) x e h = get_at (λ i. P (suc i)) ps i x e h.1

set_at : (P : ℕ → Player → Type 0) (ps : List Player) (i : ℕ) (y : Player) → P i y → EachAt P ps → EachAt P (set ps i y)
set_at P [] i y k h = tt
set_at P (p ∷ ps) zero y k h = (k, h.1)
set_at P (p ∷ ps) (suc i) y k h = (h.0, set_at (λ i. P (suc i)) ps i y k h.1)

changed_at : (P : ℕ → Player → Type 0) (change : Player → Player) (ps : List Player) (p : ℕ) (x : Player) → player_at ps p ≡ Some x
    → (P (p - 1) x → P (p - 1) (change x)) → EachAt P ps → EachAt P (changed change ps p)
changed_at P change ps p x e f h =
    subst (EachAt P) (sym (changed_is change ps p x e)) (set_at P ps (p - 1) (change x) (f (get_at P ps (p - 1) x (at_place ps p x e) h)) h)

-- a player at a place is so many words ahead of a frame
abbrev IsDelayed : Settings → ℕ → ℕ → Player → Type 0
IsDelayed settings frame place player = player.local ≡ true → length player.words ≡ frame + delay_at settings place + (if player.given then 1 else 0)

abbrev AreDelayed : Settings → Core → Type 0
AreDelayed settings core = EachAt (IsDelayed settings core.frame) core.players

-- the same for a place and those after it, when a frame begins
next_at : (d : ℕ → ℕ) (frame : ℕ) (ps : List Player) → list_any (λ player. player.local && not player.given) ps ≡ false
    → EachAt (λ i x. x.local ≡ true → length x.words ≡ frame + d i + (if x.given then 1 else 0)) ps
    → EachAt (λ i x. x.local ≡ true → length x.words ≡ frame + 1 + d i + (if x.given then 1 else 0)) (map with_none_given ps)
next_at d frame [] a h = tt
next_at d frame (p ∷ ps) a h =
    let parts = or_parts (p.local && not p.given) (list_any (λ player. player.local && not player.given) ps) a in
    (λ l. one l (given p.local p.given parts.0 l), next_at (λ i. d (suc i)) frame ps parts.1 h.1)
  where
    given : (l v : Bool) → (l && not v) ≡ false → l ≡ true → v ≡ true
    given true true e f = refl
    given true false e f = absurd (false≢true (sym e))
    given false v e f = absurd (false≢true f)

    one : p.local ≡ true → p.given ≡ true → length p.words ≡ frame + 1 + d 0 + 0
    one l g = let n : length p.words ≡ frame + d 0 + 1 = rw g at h.0 l in omega (arith, n)

delayed_moved : (settings : Settings) (core : Core) (players : List Player) (frame : ℕ) (more : List Rows) (told : Option (ℕ × ℕ))
    → AreDelayed settings core → Moves settings core players frame more told → EachAt (IsDelayed settings frame) players
delayed_moved settings core players frame more told b (rests added) = b
delayed_moved settings core players frame more told b (changes change p x word e words plays) =
    changed_at (IsDelayed settings core.frame) change core.players p x e
    (λ k l. let local : x.local ≡ true = sym plays.same_local ∙ l in omega (arith, plays.gains local, k local)) b
delayed_moved settings core players frame more told b (begins all) = next_at (delay_at settings) core.frame core.players (not-true _ all) b

delayed_events : (settings : Settings) (game : Game) (core : Core) (events : List CoreEvent) → AreDelayed settings core → AreDelayed settings (played_from settings game core events)
delayed_events settings game =
    events_keep settings game (AreDelayed settings)
    (λ core event a b. delayed_moved settings core _ _ _ _ b (effect_of settings game core event.value event.entry a.0).moves)

first_at : (settings : Settings) (n k : ℕ) (d : ℕ → ℕ) → ((i : ℕ) → d i ≡ delay_at settings (n + i)) → EachAt (λ i x. x.local ≡ true → length x.words ≡ 0 + d i + (if x.given then 1 else 0)) (map (first_player settings) (range_with_len n k))
first_at settings n zero d e = tt
first_at settings n (suc k) d e =
    let here : n + 0 ≡ n = omega arith in (
      λ l. long_first settings n ∙ ap (delay_at settings) (sym here) ∙ sym (e 0) ∙ omega arith,
      first_at settings (n + 1) k (λ i. d (suc i)) (λ i. let there : n + suc i ≡ n + 1 + i = omega arith in e (suc i) ∙ ap (delay_at settings) there),
    )

pub local_words_are_delayed : LocalWordsAreDelayed
local_words_are_delayed settings game events h place player e l =
    get_at (IsDelayed settings (played_from settings game (first_core settings) events).frame) (played_from settings game (first_core settings) events).players place player e
    (delayed_events settings game (first_core settings) events (first_at settings 0 settings.players (delay_at settings) (λ i. let same : i ≡ 0 + i = omega arith in ap (delay_at settings) same))) l
