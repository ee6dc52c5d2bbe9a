-- Machines that hold words back play one match with the others.
use Rattle.std.proofs.Common.{◌≡◌, ◌∙◌, ◌⊎◌, ℕ, ◌+◌, ◌≤◌, List, [], ◌∷◌, ◌++◌, length, refl, ap, sym, subst, arith, append-nil, length-append, true, false, eqb, inl, inr, Option, Some, None, not}
use Rattle.std.specs.Prelude.{◌==◌, nat_lt, if◌then◌else◌}
use Rattle.std.specs.Option.{option_map, option_map_or}
use Rattle.std.proofs.lemmas.Bool.{cases_Bool, eqb-true, ltb-false, not-false}
use Rattle.roll_frame.proofs.Refused.{all_fail}
use Rattle.roll_frame.specs.Core.{settled}
use Rattle.roll_frame.specs.Inputs.{player_at, remote_tests, with_words}
use Rattle.roll_frame.specs.Paths.{run}
use Rattle.roll_frame.specs.Timeline.{timeline, Player}
use Rattle.roll_frame.specs.declared.refusal.Refusal.TheVariants.{LogFull}
use Rattle.std.specs.Prelude.{nat_le}
use Rattle.roll_inputs.proofs.Players.{found, of_player_at}
use Rattle.roll_inputs.specs.declared.remote_word.RemoteWord.{RemoteWord}
use Rattle.roll_laws.proofs.Fronts.{settled_is, timeline_stays, Onward}
use Rattle.roll_laws.proofs.Sound.{onward_played, sound_played, Sound}
use Rattle.roll_member.proofs.Taking.{settled_on}
use Rattle.roll_peer.proofs.Alike.{two_peers_one_match}
use Rattle.roll_peer.proofs.Later.{called_on}
use Rattle.roll_peer.specs.PeerWorlds.{Continues}
use Rattle.roll_peer.specs.Requests.{Beside}
use Rattle.roll_session.proofs.Following.{ever_of, law_of}
use Rattle.roll_session.specs.Headline.{words_of}
use Rattle.roll_session.specs.Seen.{FollowsLog, Seen, Step}
use Rattle.roll_relay.specs.OneMatch.{HoldersAreOne, HoldersGoOn, HoldsBack}
use Rattle.roll_relay.specs.Told.{after_word, asked_words, told, words_among, Fits, Takes}
use Rattle.roll_relay.proofs.Told.{first_takes, many_told, played_told, player_told, told_stays, with_none}

-- ---- what is settled

module _ (step : Step) (s : Seen) (words : List RemoteWord) (follows : FollowsLog step s) (fits : Fits s words) where
  settled_ahead : settled s.core ≤ settled (told s words).core
  settled_ahead = settled_on step s (told s words) (asked_words words) follows (played_told step s words fits)

  -- the rows that a session has settled are those of the session that has heard more
  rows_ahead : (frame : ℕ) → frame ≤ settled s.core
      → timeline (told s words).core.players frame ≡ timeline s.core.players frame
  rows_ahead frame low =
      let on = ever_of step s follows Onward onward_played (asked_words words) (told s words).core
      (played_told step s words fits).core in
      let up = settled_is s.core (law_of step s follows Sound sound_played).root in
      timeline_stays frame s.core.players (told s words).core.players on.players (omega (arith, low, up.0))

module _ (step : Step) (s : Seen) (words : List RemoteWord) (b : Beside) (holds : HoldsBack step s words b) where
  settled_beside : settled s.core ≤ settled b.session.core
  settled_beside = omega (
    arith,
    settled_ahead step s words holds.follows holds.fits,
    ap (λ (x : Seen). settled x.core) holds.is,
  )

  rows_beside : (frame : ℕ) → frame ≤ settled s.core → timeline b.session.core.players frame ≡ timeline s.core.players frame
  rows_beside frame low =
      ap (λ (x : Seen). timeline x.core.players frame) holds.is ∙ rows_ahead step s words holds.follows holds.fits frame low

  opening_beside : b.session.opening ≡ s.opening
  opening_beside = ap (λ (x : Seen). x.opening) holds.is ∙ (told_stays s words).opening

pub holders_are_one : HoldersAreOne
holders_are_one match games world i j a b s t words more played is_a is_b here_a here_b holds_a holds_b frame low_a low_b =
    let one = two_peers_one_match match games world i j a b played is_a is_b here_a here_b frame
    (omega (arith, low_a, settled_beside (games i) s words a holds_a))
    (omega (arith, low_b, settled_beside (games j) t more b holds_b)) in
    let rows_a = rows_beside (games i) s words a holds_a frame low_a in
    let rows_b = rows_beside (games j) t more b holds_b frame low_b in
    let open_a = opening_beside (games i) s words a holds_a in
    let open_b = opening_beside (games j) t more b holds_b in
    record {
      rows = sym rows_a ∙ one.rows ∙ rows_b;
      states = λ alike same.
          (λ k. run (games i) (sym open_a k) (sym rows_a k))
          ∙ one.states alike (open_a ∙ same ∙ sym open_b)
          ∙ (λ k. run (games j) (open_b k) (rows_b k));
      left = one.left;
    }

-- ---- its program's own calls

-- the frame of a player's first word among these
abbrev first_frame : List RemoteWord → ℕ → Option ℕ
first_frame [] p = None
first_frame (w ∷ words) p = if w.player == p then Some w.frame else first_frame words p

-- none of a player's words is among these, if there is no first
none_among : (words : List RemoteWord) (p : ℕ) → first_frame words p ≡ None → words_among words p ≡ []
none_among [] p e = refl
none_among (w ∷ words) p e = go (cases_Bool (eqb w.player p)) (none_among words p)
  where
    go : (eqb w.player p ≡ true) ⊎ (eqb w.player p ≡ false) → (first_frame words p ≡ None → words_among words p ≡ [])
        → words_among (w ∷ words) p ≡ []
    go (inl same) rest = let no : Some w.frame ≡ None = rw same at e in absurd (cc no)
    go (inr other) rest = rw other (rest (rw other at e))

-- a list that only begins with another is that one if it is as long
no_more : (xs ys more : List ℕ) → ys ≡ xs ++ more → length ys ≡ length xs → ys ≡ xs
no_more xs ys more e n =
    let none : length more ≡ 0 = omega (arith, n, ap (λ (ws : List ℕ). length ws) e, length-append xs more) in
    e ∙ ap (λ ws. xs ++ ws) (empty more none) ∙ append-nil xs
  where
    empty : (ws : List ℕ) → length ws ≡ 0 → ws ≡ []
    empty [] n = refl
    empty (w ∷ ws) n = absurd (omega (arith, n))

words_told : (s : Seen) (words : List RemoteWord) (p : ℕ) (x : Player) → player_at s.core.players p ≡ Some x
    → words_of (told s words) p ≡ words_of s p ++ words_among words p
words_told s words p x e =
    ap (λ o. option_map_or (λ (player : Player). player.words) o []) (player_told s words p ∙ ap (option_map (with_words (words_among words p))) e)
    ∙ ap (λ o. option_map_or (λ (player : Player). player.words) o [] ++ words_among words p) (sym e)

-- a word that is taken is the next one of a player who is there
record IsNext (s : Seen) (w : RemoteWord) : Type 0 where
  player : Player
  there : player_at s.core.players w.player ≡ Some player
  frame : w.frame ≡ length (words_of s w.player)

is_next_of : (s : Seen) (w : RemoteWord) → Takes s w → IsNext s w
is_next_of s w takes =
    let fails = all_fail (remote_tests s.core.players (settled s.core) w.player w.frame
    ++ (nat_le s.settings.log s.core.logged, LogFull) ∷ []) takes.taken in
    let x = found (λ (player : Player). not player.local) s.core.players w.player (not-false _ fails.0) in
    let words : words_of s w.player ≡ x.0.words = ap (λ o. option_map_or (λ (player : Player). player.words) o []) x.1 in
    let before = ltb-false w.frame (length x.0.words)
    (sym (of_player_at (λ player. nat_lt w.frame (length player.words)) s.core.players w.player x.0 x.1) ∙ fails.1.1.0) in
    let after = ltb-false (length x.0.words) w.frame
    (sym (of_player_at (λ player. nat_lt (length player.words) w.frame) s.core.players w.player x.0 x.1) ∙ fails.1.1.1.0) in
    record {
      player = x.0;
      there = x.1;
      frame = omega (arith, before, after, ap (λ (ws : List ℕ). length ws) words);
    }

-- so it is if others' words come first
first_is : (s : Seen) (words : List RemoteWord) (p frame : ℕ) → Fits s words → first_frame words p ≡ Some frame
    → (x : Player) × (player_at s.core.players p ≡ Some x) × (frame ≡ length (words_of s p))
first_is s [] p frame f e = absurd (cc e)
first_is s (w ∷ words) p frame f e =
    go (cases_Bool (eqb w.player p)) (first_takes s w words f) (λ g. first_is (after_word s w) words p frame g)
  where
    go : (eqb w.player p ≡ true) ⊎ (eqb w.player p ≡ false) → Takes s w × Fits (after_word s w) words
        → (Fits (after_word s w) words → first_frame words p ≡ Some frame
        → (x : Player) × (player_at (after_word s w).core.players p ≡ Some x) × (frame ≡ length (words_of (after_word s w) p)))
        → (x : Player) × (player_at s.core.players p ≡ Some x) × (frame ≡ length (words_of s p))
    go (inl same) first rest =
        let next = is_next_of s w first.0 in
        let is : w.frame ≡ frame = cc (rw same at e) in
        let here : w.player ≡ p = eqb-true w.player p same in (
          next.player,
          subst (λ n. player_at s.core.players n ≡ Some next.player) here next.there,
          sym is ∙ subst (λ n. w.frame ≡ length (words_of s n)) here next.frame,
        )
    go (inr other) first rest =
        let later = rest first.1 (rw other at e) in
        let none : words_among (w ∷ []) p ≡ [] = rw other refl in
        let same : player_at (after_word s w).core.players p ≡ player_at s.core.players p =
        player_told s (w ∷ []) p ∙ ap (λ ws. option_map (with_words ws) (player_at s.core.players p)) none ∙ with_none (player_at s.core.players p) in (
          later.0,
          sym same ∙ later.1,
          later.2 ∙ ap (λ o. length (option_map_or (λ (player : Player). player.words) o [])) same,
        )

words_go_on : (old new : Seen) (words : List RemoteWord) (q : ℕ) → Fits old words → Fits new words
    → (more : List ℕ) × (words_of new q ≡ words_of old q ++ more)
    → (more : List ℕ) × (words_of (told new words) q ≡ words_of (told old words) q ++ more)
words_go_on old new words q fits still on = go (first_frame words q) refl on
  where
    none_told : (s : Seen) → words_among words q ≡ [] → words_of (told s words) q ≡ words_of s q
    none_told s none =
        ap (λ o. option_map_or (λ (player : Player). player.words) o [])
        (player_told s words q ∙ ap (λ ws. option_map (with_words ws) (player_at s.core.players q)) none
        ∙ with_none (player_at s.core.players q))

    go : (o : Option ℕ) → first_frame words q ≡ o → (more : List ℕ) × (words_of new q ≡ words_of old q ++ more)
        → (more : List ℕ) × (words_of (told new words) q ≡ words_of (told old words) q ++ more)
    go None e more =
        let none = none_among words q e in
        (more.0, none_told new none ∙ more.1 ∙ ap (λ ws. ws ++ more.0) (sym (none_told old none)))
    go (Some frame) e more =
        let before = first_is old words q frame fits e in
        let after = first_is new words q frame still e in
        let same : words_of new q ≡ words_of old q = no_more (words_of old q) (words_of new q) more.0 more.1 (sym after.2 ∙ before.2) in (
          [],
          words_told new words q after.0 after.1 ∙ ap (λ ws. ws ++ words_among words q) same
              ∙ sym (words_told old words q before.0 before.1) ∙ sym (append-nil (words_of (told old words) q)),
        )

pub holders_go_on : HoldersGoOn
holders_go_on step old new words room place follows called fits still = record {
  words = λ p. words_go_on old new words (p + 1) fits still (on.words p);
  players = many_told new words ∙ on.players ∙ sym (many_told old words);
  opening = (told_stays new words).opening ∙ on.opening ∙ sym (told_stays old words).opening;
}
  where
    on : Continues old new
    on = called_on step old new follows called
