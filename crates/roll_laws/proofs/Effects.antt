-- What an accepted event does to the core. The proofs of the laws go by this, so that events are told apart here alone.
use Rattle.std.proofs.Common.{◌≡◌, ◌≢◌, ℕ, ◌+◌, ◌-◌, ◌<◌, ◌≤◌, List, [], ◌∷◌, ◌++◌, length, refl, sym, ◌∙◌, Bool, true, false, arith, inl, inr, map, length-append, append-nil, Option, Some, None}
use Rattle.std.specs.Prelude.{◌⊎◌, not, nat_le, nat_lt, ◌&&◌, ◌==◌, if◌then◌else◌, option_map}
use Rattle.std.specs.Option.{option_map_or}
use Rattle.std.proofs.lemmas.Bool.{false≢true, not-false, not-true, and_parts, or_cases, leb-false, leb-true, ltb-false, eqb-false, eqb-true}
use Rattle.roll_frame.specs.Cells.{Rows}
use Rattle.roll_frame.specs.Core.{Roll, Core, settled, kept, cost, rolled, rolled_paths}
use Rattle.roll_frame.specs.Events.{all_given, can_be_partial, tests_of, added_by, applied, branch_of}
use Rattle.roll_frame.specs.Games.{Game, Value}
use Rattle.roll_frame.specs.Grafts.{Branch, whole_of, anchor, new_paths}
use Rattle.roll_frame.specs.Inputs.{player_at, changed, with_words, with_given, with_gone, with_none_given}
use Rattle.roll_frame.specs.Paths.{contains}
use Rattle.roll_frame.specs.Settings.{open_to_branches}
use Rattle.roll_frame.specs.Timeline.{Player, front}
use Rattle.roll_frame.specs.declared.entry.Entry.{Entry}
use Rattle.roll_frame.specs.declared.entry.Entry.TheVariants.{Local, Remote, Disconnect, Sync, Advance, Graft, Partial}
use Rattle.roll_frame.specs.declared.limits.TheConstants.{PATH_LIMIT, QUEUE_LIMIT}
use Rattle.roll_frame.specs.declared.settings.Settings.{Settings}
use Rattle.roll_frame.proofs.Refused.{AllFail}
use Rattle.roll_laws.proofs.Ahead.{Later}
use Rattle.roll_laws.proofs.Accepted.{found, of_player_is, later_with_words, later_with_given, later_with_gone}

-- a local player never leaves
abbrev pub Stays : Player → Type 0
Stays p = p.local ≡ true → p.gone ≡ false

-- 1 if the player's word of this frame was given
abbrev pub given_count : Player → ℕ
given_count p = if p.given then 1 else 0

-- what an event that changes a player makes of it
pub record Plays (settings : Settings) (core : Core) (old new : Player) : Type 0 where
  pub same_local : new.local ≡ old.local
  pub later : Stays old → Later old new
  pub stays : Stays old → Stays new
  -- a word is given only if the frame is below the threshold, and not the last one
  pub given : new.given ≡ true
      → (old.given ≡ true) ⊎ ((core.frame < front core.players + settings.threshold) × (core.frame ≢ settings.limit))
  -- a local player gains the word that is given, and no other
  pub gains : old.local ≡ true → length new.words + given_count old ≡ length old.words + given_count new
  -- a remote player's words stay few
  pub few : old.local ≡ false → length old.words ≤ settled core + QUEUE_LIMIT
      → length new.words ≤ settled core + QUEUE_LIMIT

-- what becomes of the players and the frame if these paths are added, and this player's word is confirmed
pub data Moves (settings : Settings) (core : Core)
    : List Player → ℕ → List Rows → Option (ℕ × ℕ) → Type 0 where
  -- they stay
  rests : (more : List Rows) → Moves settings core core.players core.frame more None
  -- one player is changed
  changes : (change : Player → Player) (p : ℕ) (x : Player) (word : Option ℕ)
      → player_at core.players p ≡ Some x
      → (change x).words ≡ x.words ++ option_map_or (λ w. w ∷ []) word []
      → Plays settings core x (change x)
      → Moves settings core (changed change core.players p) core.frame [] (option_map (λ w. (p, w)) word)
  -- the next frame begins, after a roll to it
  begins : all_given core.players ≡ true
      → Moves settings core (map with_none_given core.players) (core.frame + 1) (rolled_paths core (core.frame + 1) (cost core (core.frame + 1))) None

-- whether there is no room for what a branch has that is new
abbrev pub is_full : Settings → Core → Branch → Bool
is_full settings core branch =
    nat_lt 0 (length (new_paths core branch))
    && nat_lt (open_to_branches settings.profile) (length (kept core) + length (new_paths core branch))

-- the paths that are added: the first ones of a roll, or none, or those of a branch
pub data Adds (settings : Settings) (core : Core) : List Rows → Type 0 where
  rolls : (to made : ℕ) → to ≤ core.frame + 1 → made ≤ cost core to
      → Adds settings core (rolled_paths core to made)
  grafts : (branch : Branch) → length (whole_of core branch) ≤ settled core + PATH_LIMIT
      → contains (kept core) (anchor core branch) ≡ true
      → is_full settings core branch ≡ false
      → Adds settings core (new_paths core branch)

-- what is shown, and the last roll
pub data Shows (core : Core) : Option Rows → Option Roll → Type 0 where
  keeps : Shows core core.shown core.last
  reaches : (to : ℕ) → core.frame ≤ to → to ≤ core.frame + 1
      → Shows core (rolled core to).shown (rolled core to).last
  cuts_short : Shows core None None

-- the player and the word that an event confirms
abbrev pub told_by : Entry → Option (ℕ × ℕ)
told_by (Local p word) = Some (p, word)
told_by (Remote p f word) = Some (p, word)
told_by entry = None

pub record Effect (settings : Settings) (core : Core) (entry : Entry) : Type 0 where
  pub moves : Moves settings core (applied core entry).players (applied core entry).frame (added_by core entry) (told_by entry)
  pub adds : Adds settings core (added_by core entry)
  pub shows : Shows core (applied core entry).shown (applied core entry).last

adds_none : (settings : Settings) (core : Core) → Adds settings core []
adds_none settings core = rolls core.frame 0 (omega arith) (omega arith)

-- a roll that is cut short goes to the frame or the next one
near : (core : Core) (to made : ℕ) → can_be_partial core to made ≡ true
    → (to ≤ core.frame + 1) × (made ≤ cost core to)
near core to made h =
    let can = and_parts _ (nat_le made (cost core to)) h in
    (go (or_cases (to == core.frame) _ can.0), leb-true made (cost core to) can.1)
  where
    go : ((to == core.frame) ≡ true) ⊎ ((to == core.frame + 1 && all_given core.players) ≡ true) → to ≤ core.frame + 1
    go (inl e) = omega (arith, eqb-true to core.frame e)
    go (inr e) = omega (arith, eqb-true to (core.frame + 1) (and_parts (to == core.frame + 1) (all_given core.players) e).0)

pub effect_of : (settings : Settings) (game : Game) (core : Core) (from : Value) (entry : Entry)
    → AllFail (tests_of settings game core from entry) → Effect settings core entry
effect_of settings game core from (Local p word) h =
    let it = found (λ player. player.local) core.players p h.0 in
    let x : Player = it.0 in
    let new : x.given ≡ false = of_player_is (λ player. player.given) core.players p x false it.1 h.1.0 in
    record {
      moves = changes (with_given word) p x (Some word) it.1 refl (record {
        same_local = refl;
        later = λ stays. later_with_given word x (stays it.2);
        stays = λ stays. stays;
        given = λ g. inr (leb-false _ core.frame h.1.1.0, eqb-false core.frame settings.limit h.1.1.1.0);
        gains = λ l. rw new (omega (arith, length-append x.words (word ∷ [])));
        few = λ r. absurd (false≢true (sym r ∙ it.2));
      });
      adds = adds_none settings core;
      shows = keeps;
    }
effect_of settings game core from (Remote p f word) h =
    let it = found (λ player. not player.local) core.players p h.0 in
    let x : Player = it.0 in
    let remote : x.local ≡ false = not-true x.local it.2 in
    let here : x.gone ≡ false = of_player_is (λ player. player.gone) core.players p x false it.1 h.1.0 in
    let room : length x.words - settled core < QUEUE_LIMIT =
    leb-false QUEUE_LIMIT (length x.words - settled core)
    (of_player_is (λ player. nat_le QUEUE_LIMIT (length player.words - settled core)) core.players p x false it.1 h.1.1.1.1.0) in
    record {
      moves = changes (with_words (word ∷ [])) p x (Some word) it.1 refl (record {
        same_local = refl;
        later = λ stays. later_with_words (word ∷ []) x here;
        stays = λ stays. stays;
        given = inl;
        gains = λ l. absurd (false≢true (sym remote ∙ l));
        few = λ r few. omega (arith, room, length-append x.words (word ∷ []));
      });
      adds = adds_none settings core;
      shows = keeps;
    }
effect_of settings game core from (Disconnect p) h =
    let it = found (λ player. not player.local) core.players p h.0 in
    let x : Player = it.0 in
    record {
      moves = changes with_gone p x None it.1 (sym (append-nil x.words)) (record {
        same_local = refl;
        later = λ stays. later_with_gone x;
        stays = λ stays l. absurd (false≢true (sym (not-true x.local it.2) ∙ l));
        given = inl;
        gains = λ l. refl;
        few = λ r few. few;
      });
      adds = adds_none settings core;
      shows = keeps;
    }
effect_of settings game core from Sync h =
    record {
      moves = rests (rolled_paths core core.frame (cost core core.frame));
      adds = rolls core.frame (cost core core.frame) (omega arith) (omega arith);
      shows = reaches core.frame (omega arith) (omega arith);
    }
effect_of settings game core from Advance h =
    record {
      moves = begins (not-false _ h.0);
      adds = rolls (core.frame + 1) (cost core (core.frame + 1)) (omega arith) (omega arith);
      shows = reaches (core.frame + 1) (omega arith) (omega arith);
    }
effect_of settings game core from (Graft ticket route) h =
    record {
      moves = rests (new_paths core (branch_of route));
      adds = grafts (branch_of route) (ltb-false _ _ h.1.1.0) (not-false _ h.1.1.1.1.1.0) h.1.1.1.1.1.1.1.0;
      shows = keeps;
    }
effect_of settings game core from (Partial to made) h =
    let at = near core to made (not-false _ h.0) in
    record { moves = rests (rolled_paths core to made); adds = rolls to made at.0 at.1; shows = cuts_short }
