-- Words of a row, one after another: how many players there are, which words are this machine's, and those that are given.
use Rattle.std.proofs.Common.{◌≡◌, ◌≤◌, ℕ, zero, suc, ◌+◌, List, Bool, true, false, cond, arith, refl, subst}
use Rattle.std.specs.Prelude.{◌==◌, slice_index, if◌then◌else◌}
use Rattle.roll_chain.proofs.Played.{played_then, stopped_before}
use Rattle.roll_epoch.specs.Ends.{owner_of}
use Rattle.roll_requests.specs.Asked.{Asked}
use Rattle.roll_requests.specs.declared.declined.Declined.{Declined}
use Rattle.fazgrond_c.specs.MatchKinds.{players_to}
use Rattle.fazgrond_c.specs.Playing.{own_before, word_given, words_given, AreGivenIn, DeclinesFor, GivesCall}
use Rattle.fazgrond_c.specs.declared.match_settings.TheConstants.{NO_PLAYER}

after : (n : ℕ) → n + 1 ≡ suc n
after n = omega arith

-- ---- players

pub players_none : (owners : List ℕ) → players_to owners 0 ≡ 0
unfolding players_to
players_none owners = refl

pub players_next : (owners : List ℕ) (p : ℕ)
    → players_to owners (p + 1) ≡ (if slice_index owners p == NO_PLAYER then players_to owners p else p + 1)
unfolding players_to
players_next owners p = rw (after p) refl

last_or : (b : Bool) (n p : ℕ) → n ≤ p → cond b n (suc p) ≤ suc p
last_or true n p l = omega (arith, l)
last_or false n p l = omega arith

pub players_most : (owners : List ℕ) (n : ℕ) → players_to owners n ≤ n
unfolding players_to
players_most owners zero = omega arith
players_most owners (suc p) = last_or (slice_index owners p == NO_PLAYER) (players_to owners p) p (players_most owners p)

-- ---- this machine's words

pub own_none : (owners : List ℕ) (me : ℕ) → own_before owners me 0 ≡ 0
unfolding own_before
own_none owners me = refl

pub own_next : (owners : List ℕ) (me p : ℕ)
    → own_before owners me (p + 1) ≡ (if owner_of owners p == me then own_before owners me p + 1 else own_before owners me p)
unfolding own_before
own_next owners me p = rw (after p, after (own_before owners me p)) refl

more_or : (b : Bool) (n p : ℕ) → n ≤ p → cond b (suc n) n ≤ suc p
more_or true n p l = omega (arith, l)
more_or false n p l = omega (arith, l)

pub own_most : (owners : List ℕ) (me n : ℕ) → own_before owners me n ≤ n
unfolding own_before
own_most owners me zero = omega arith
own_most owners me (suc p) = more_or (owner_of owners p == me) (own_before owners me p) p (own_most owners me p)

-- ---- those that are given

module _ (owners : List ℕ) (me size : ℕ) (inputs : List ℕ) (why : Declined) where
  pub given_none : (s : Asked) → AreGivenIn s (words_given owners me size inputs 0) s why true
  unfolding words_given
  given_none s = (refl, refl)

  pub given_next : (p : ℕ) (old mid new : Asked) (all : Bool) → AreGivenIn old (words_given owners me size inputs p) mid why true
      → AreGivenIn mid (word_given owners me size inputs p) new why all → AreGivenIn old (words_given owners me size inputs (p + 1)) new why all
  unfolding words_given
  given_next p old mid new all first more =
      let next : suc p ≡ p + 1 = omega arith in
      subst (λ (n : ℕ). AreGivenIn old (words_given owners me size inputs n) new why all) next
      (played_then GivesCall (DeclinesFor why) old mid new (words_given owners me size inputs p) (word_given owners me size inputs p) all first more)

  -- those of more places, if one isn't taken
  pub given_stopped : (p d : ℕ) (old new : Asked) → AreGivenIn old (words_given owners me size inputs p) new why false
      → AreGivenIn old (words_given owners me size inputs (p + d)) new why false
  unfolding words_given
  given_stopped p zero old new stopped =
      let same : p ≡ p + zero = omega arith in
      subst (λ (n : ℕ). AreGivenIn old (words_given owners me size inputs n) new why false) same stopped
  given_stopped p (suc d) old new stopped =
      let next : suc (p + d) ≡ p + suc d = omega arith in
      subst (λ (n : ℕ). AreGivenIn old (words_given owners me size inputs n) new why false) next
      (stopped_before GivesCall (DeclinesFor why) old new (words_given owners me size inputs (p + d)) (word_given owners me size inputs (p + d))
      (given_stopped p d old new stopped))
