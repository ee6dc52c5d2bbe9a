-- The confirmed words of players, as events change them.
use Rattle.std.proofs.Common.{◌≡◌, ◌≢◌, ◌⊎◌, ◌∙◌, ℕ, ◌-◌, ◌≤◌, List, [], ◌∷◌, ◌++◌, length, map, refl, ap, sym, Bool, cond, true, false, arith, inl, inr, Option, Some, None, eqb, append-nil}
use Rattle.std.specs.Prelude.{not, slice_get, slice_index, nat_lt, option_map, ◌==◌, ◌&&◌}
use Rattle.std.specs.Option.{option_map_or}
use Rattle.std.proofs.lemmas.Bool.{and_parts, cases_Bool, eqb-true, ltb-false, ltb-true, not-false, false≢true, eq-eqb}
use Rattle.std.proofs.lemmas.Option.{slice_get-get_or, slice_get-map}
use Rattle.roll_frame.specs.Cells.{Rows}
use Rattle.roll_frame.specs.Core.{Core, settled}
use Rattle.roll_frame.specs.Events.{answer, applied, tests_of, CoreEvent}
use Rattle.roll_frame.specs.Games.{Game}
use Rattle.roll_frame.specs.Inputs.{changed, is_repeated, of_player, player_at, remote_tests, with_none_given}
use Rattle.roll_frame.specs.Timeline.{Player}
use Rattle.roll_frame.specs.declared.entry.Entry.{Entry}
use Rattle.roll_frame.specs.declared.entry.Entry.TheVariants.{Local}
use Rattle.roll_frame.specs.declared.settings.Settings.{Settings}
use Rattle.roll_frame.proofs.Refused.{AllFail}
use Rattle.roll_laws.proofs.Effects.{Moves, rests, changes, begins, effect_of, told_by}
use Rattle.roll_inputs.proofs.Players.{at_changed, at_other, found, of_player_at}
use Rattle.roll_session.specs.Headline.{words_in}

abbrev words_of : Option Player → List ℕ
words_of player = option_map_or (λ (player : Player). player.words) player []

-- the words of a player of a list
abbrev pub words_at : List Player → ℕ → List ℕ
words_at players p = words_of (player_at players p)

-- a change that adds words to those of one player
words_changed : (change : Player → Player) (more : List ℕ) (players : List Player) (q : ℕ) (x : Player) → player_at players q ≡ Some x → (change x).words ≡ x.words ++ more → (p : ℕ)
    → words_at (changed change players q) p ≡ words_at players p ++ cond (p == q) more []
words_changed change more players q x e adds p = go (cases_Bool (eqb p q))
  where
    own : words_at (changed change players q) q ≡ words_at players q ++ more
    own = ap words_of (at_changed change players q x e) ∙ adds ∙ ap (λ o. words_of o ++ more) (sym e)

    go : (eqb p q ≡ true) ⊎ (eqb p q ≡ false) → words_at (changed change players q) p ≡ words_at players p ++ cond (p == q) more []
    go (inl same) = rw (same, eqb-true p q same) own
    go (inr other) =
        let apart : p ≢ q = λ f. false≢true (sym other ∙ eq-eqb p q f) in
        rw other (ap words_of (at_other change players q p x e apart) ∙ sym (append-nil (words_at players p)))

words_none_given : (players : List Player) (p : ℕ) → words_at (map with_none_given players) p ≡ words_at players p
words_none_given players p = go (eqb p 0)
  where
    each : (o : Option Player) → words_of (option_map with_none_given o) ≡ words_of o
    each None = refl
    each (Some x) = refl

    go : (b : Bool) → words_of (cond b None (slice_get (map with_none_given players) (p - 1))) ≡ words_of (cond b None (slice_get players (p - 1)))
    go true = refl
    go false = rw (slice_get-map with_none_given players (p - 1)) (each (slice_get players (p - 1)))

-- the words of player p that are told
abbrev words_told : Option (ℕ × ℕ) → ℕ → List ℕ
words_told told p = option_map_or (λ told. cond (p == told.0) (told.1 ∷ []) []) told []

words_moved : (settings : Settings) (core : Core) (players : List Player) (frame : ℕ) (more : List Rows) (told : Option (ℕ × ℕ)) → Moves settings core players frame more told → (p : ℕ)
    → words_at players p ≡ words_at core.players p ++ words_told told p
words_moved settings core players frame more told (rests added) p = sym (append-nil (words_at core.players p))
words_moved settings core players frame more told (changes change q x (Some word) e words plays) p = words_changed change (word ∷ []) core.players q x e words p
words_moved settings core players frame more told (changes change q x None e words plays) p =
    words_changed change [] core.players q x e words p ∙ ap (λ ws. words_at core.players p ++ ws) (none (p == q))
  where
    none : (b : Bool) → cond {A = List ℕ} b [] [] ≡ []
    none true = refl
    none false = refl
words_moved settings core players frame more told (begins all) p = words_none_given core.players p ∙ sym (append-nil (words_at core.players p))

module _ (settings : Settings) (game : Game) (core : Core) where
  -- the words after an event that is accepted
  pub words_applied : (event : CoreEvent) → AllFail (tests_of settings game core event.value event.entry) → (p : ℕ)
      → words_at (applied core event.entry).players p ≡ words_at core.players p ++ words_in event.entry (answer core event.entry) p
  words_applied event fails p =
      words_moved settings core _ _ _ _ (effect_of settings game core event.value event.entry fails).moves p
      ∙ ap (λ ws. words_at core.players p ++ ws) (told_is event.entry)
    where
      told_is : (entry : Entry) → words_told (told_by entry) p ≡ words_in entry (answer core entry) p
      told_is (Local q word) = refl
      told_is entry = refl

  -- a remote word that is accepted is the next one
  pub remote_next : (p f word : ℕ) → AllFail (remote_tests core.players (settled core) p f) → f ≡ length (words_at core.players p)
  remote_next p f word fails =
      let x = found (λ player. not player.local) core.players p (not-false (of_player (λ player. not player.local) core.players p) fails.0) in
      let words : words_at core.players p ≡ x.0.words = ap words_of x.1 in
      let high : length x.0.words ≤ f = ltb-false f (length x.0.words) (sym (of_player_at (λ player. nat_lt f (length player.words)) core.players p x.0 x.1) ∙ fails.1.1.0) in
      let low : f ≤ length x.0.words = ltb-false (length x.0.words) f (sym (of_player_at (λ player. nat_lt (length player.words) f) core.players p x.0 x.1) ∙ fails.1.1.1.0) in
      omega (arith, high, low, ap (λ (ws : List ℕ). length ws) words)

-- a remote word that is told again is there
pub remote_again : (players : List Player) (p f word : ℕ) → is_repeated players p f word ≡ true → slice_get (words_at players p) f ≡ Some word
remote_again players p f word h =
    let x = found (λ player. not player.local && (not player.gone && (nat_lt f (length player.words) && (slice_index player.words f == word)))) players p h in
    let words : words_at players p ≡ x.0.words = ap words_of x.1 in
    let rest = and_parts (not x.0.local) _ x.2 in
    let more = and_parts (not x.0.gone) _ rest.1 in
    let last = and_parts (nat_lt f (length x.0.words)) (slice_index x.0.words f == word) more.1 in
    ap (λ (ws : List ℕ). slice_get ws f) words ∙ slice_get-get_or x.0.words f 0 (ltb-true f (length x.0.words) last.0) ∙ ap Some (eqb-true (slice_index x.0.words f) word last.1)
