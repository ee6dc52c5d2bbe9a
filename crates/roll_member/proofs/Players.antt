-- What a change of one player's words leaves of all players.
use Rattle.std.proofs.Common.{◌≡◌, ◌≢◌, ◌⊎◌, ◌∙◌, ℕ, List, [], ◌++◌, ◌-◌, length, ap, sym, Bool, true, false, cond, inl, inr, Option, Some, eqb, append-nil}
use Rattle.std.specs.Prelude.{◌==◌}
use Rattle.std.specs.Option.{option_map_or}
use Rattle.std.proofs.lemmas.List.{length-set}
use Rattle.std.proofs.lemmas.Bool.{cases_Bool, eqb-true, eq-eqb, false≢true}
use Rattle.roll_frame.specs.Inputs.{changed, of_player, player_at}
use Rattle.roll_frame.specs.Timeline.{Player}
use Rattle.roll_inputs.proofs.Players.{at_changed, at_other, changed_at}

-- the confirmed words of a player
abbrev pub words_in : Option Player → List ℕ
words_in player = option_map_or (λ player. player.words) player []

abbrev pub words_at : List Player → ℕ → List ℕ
words_at players p = words_in (player_at players p)

-- a player's words, where some were added to those of one
pub words_changed : (change : Player → Player) (more : List ℕ) (players : List Player) (p : ℕ)
    (x : Player) → player_at players p ≡ Some x → (change x).words ≡ x.words ++ more → (q : ℕ)
    → words_at (changed change players p) q ≡ words_at players q ++ cond (q == p) more []
words_changed change more players p x e adds q = go (cases_Bool (eqb q p))
  where
    own : words_at (changed change players p) p ≡ words_at players p ++ more
    own = ap words_in (at_changed change players p x e) ∙ adds ∙ ap (λ o. words_in o ++ more) (sym e)

    go : (eqb q p ≡ true) ⊎ (eqb q p ≡ false)
        → words_at (changed change players p) q ≡ words_at players q ++ cond (q == p) more []
    go (inl same) = rw (same, eqb-true q p same) own
    go (inr other) =
        let apart : q ≢ p = λ f. false≢true (sym other ∙ eq-eqb q p f) in
        rw other (ap words_in (at_other change players p q x e apart)
        ∙ sym (append-nil (words_at players q)))

-- a test that a change doesn't touch
pub test_changed : (test : Player → Bool) (change : Player → Player) (players : List Player) (p : ℕ)
    (x : Player) → player_at players p ≡ Some x → test (change x) ≡ test x → (q : ℕ)
    → of_player test (changed change players p) q ≡ of_player test players q
test_changed test change players p x e keeps q = go (cases_Bool (eqb q p))
  where
    tested : Option Player → Bool
    tested o = option_map_or test o false

    go : (eqb q p ≡ true) ⊎ (eqb q p ≡ false)
        → of_player test (changed change players p) q ≡ of_player test players q
    go (inl same) =
        rw (eqb-true q p same)
        (ap (λ o. option_map_or test o false) (at_changed change players p x e) ∙ keeps
        ∙ ap (λ o. option_map_or test o false) (sym e))
    go (inr other) =
        let apart : q ≢ p = λ f. false≢true (sym other ∙ eq-eqb q p f) in
        ap (λ o. option_map_or test o false) (at_other change players p q x e apart)

-- a change leaves as many players
pub length_changed : (change : Player → Player) (players : List Player) (p : ℕ) (x : Player)
    → player_at players p ≡ Some x → length (changed change players p) ≡ length players
length_changed change players p x e =
    ap (λ (ps : List Player). length ps) (changed_at change players p x e)
    ∙ length-set players (p - 1) (change x)
