-- Calls that are made one after another.
use Rattle.std.proofs.Common.{◌≡◌, ℕ, zero, suc, ◌+◌, List, [], ◌∷◌, ◌++◌, Bool, true, false, inl, inr, refl, sym, subst, arith}
use Rattle.std.specs.Bool.{OnFalse, OnTrue}
use Rattle.std.proofs.lemmas.Bool.{false≢true}
use Rattle.roll_epoch.specs.declared.terms.Terms.{Terms}
use Rattle.roll_session.specs.Seen.{Seen}
use Rattle.roll_session.specs.declared.event.Call.{Call}
use Rattle.roll_chain.specs.Again.{calls_from, frame_calls, word_of, words_until, ArePlayed}

module _ {S : Type 0} (makes declines : S → S → Call → Type 0) where
  -- once all of some calls are made, others are
  pub played_then : (old mid new : S) (xs ys : List Call) (all : Bool) → ArePlayed makes declines old xs mid true → ArePlayed makes declines mid ys new all → ArePlayed makes declines old (xs ++ ys) new all
  played_then old mid new [] ys all first more = subst (λ (m : S). ArePlayed makes declines m ys new all) first.0 more
  played_then old mid new (call ∷ xs) ys all (inl made) more =
      inl (made.0, made.1, played_then made.0 mid new xs ys all made.2 more)
  played_then old mid new (call ∷ xs) ys all (inr not_made) more = absurd (false≢true (sym not_made.1))

  -- where one isn't made, none of those after it is
  pub stopped_before : (old new : S) (xs ys : List Call) → ArePlayed makes declines old xs new false → ArePlayed makes declines old (xs ++ ys) new false
  stopped_before old new [] ys stopped = absurd (false≢true stopped.1)
  stopped_before old new (call ∷ xs) ys (inl made) = inl (made.0, made.1, stopped_before made.0 new xs ys made.2)
  stopped_before old new (call ∷ xs) ys (inr not_made) = inr not_made

  -- a call that is made, or declined
  pub performed : (old new : S) (call : Call) (taken : Bool) → OnTrue taken (makes old new call) → OnFalse taken (declines old new call)
      → ArePlayed makes declines old (call ∷ []) new taken
  performed old new call true made declined = inl (new, made, (refl, refl))
  performed old new call false made declined = inr (declined, refl)

  -- ---- words of the first players

  pub no_words : (terms : Terms) (me : ℕ) (past : Seen) (frame : ℕ) (s : S) → ArePlayed makes declines s (words_until terms me past frame 0) s true
  unfolding words_until
  no_words terms me past frame s = (refl, refl)

  pub more_words : (terms : Terms) (me : ℕ) (past : Seen) (frame p : ℕ) (old mid new : S) (all : Bool)
      → ArePlayed makes declines old (words_until terms me past frame p) mid true → ArePlayed makes declines mid (word_of terms me past frame p) new all
      → ArePlayed makes declines old (words_until terms me past frame (p + 1)) new all
  unfolding words_until
  more_words terms me past frame p old mid new all first more =
      let next : suc p ≡ p + 1 = omega arith in
      subst (λ (n : ℕ). ArePlayed makes declines old (words_until terms me past frame n) new all) next
      (played_then old mid new (words_until terms me past frame p) (word_of terms me past frame p) all first more)

  -- those of more players, if one isn't taken
  pub words_stopped : (terms : Terms) (me : ℕ) (past : Seen) (frame p d : ℕ) (old new : S) → ArePlayed makes declines old (words_until terms me past frame p) new false
      → ArePlayed makes declines old (words_until terms me past frame (p + d)) new false
  unfolding words_until
  words_stopped terms me past frame p zero old new stopped =
      let same : p ≡ p + zero = omega arith in
      subst (λ (n : ℕ). ArePlayed makes declines old (words_until terms me past frame n) new false) same stopped
  words_stopped terms me past frame p (suc d) old new stopped =
      let next : suc (p + d) ≡ p + suc d = omega arith in
      subst (λ (n : ℕ). ArePlayed makes declines old (words_until terms me past frame n) new false) next
      (stopped_before old new (words_until terms me past frame (p + d)) (word_of terms me past frame (p + d)) (words_stopped terms me past frame p d old new stopped))

  -- ---- frames

  pub no_calls_from : (terms : Terms) (me : ℕ) (past : Seen) (frame : ℕ) (s : S) → ArePlayed makes declines s (calls_from terms me past frame 0) s true
  unfolding calls_from
  no_calls_from terms me past frame s = (refl, refl)

  pub more_calls : (terms : Terms) (me : ℕ) (past : Seen) (frame n : ℕ) (old mid new : S) (all : Bool)
      → ArePlayed makes declines old (calls_from terms me past frame n) mid true → ArePlayed makes declines mid (frame_calls terms me past (frame + n)) new all
      → ArePlayed makes declines old (calls_from terms me past frame (n + 1)) new all
  unfolding calls_from
  more_calls terms me past frame n old mid new all first more =
      let next : suc n ≡ n + 1 = omega arith in
      subst (λ (m : ℕ). ArePlayed makes declines old (calls_from terms me past frame m) new all) next
      (played_then old mid new (calls_from terms me past frame n) (frame_calls terms me past (frame + n)) all first more)

  pub calls_stopped : (terms : Terms) (me : ℕ) (past : Seen) (frame n d : ℕ) (old new : S) → ArePlayed makes declines old (calls_from terms me past frame n) new false
      → ArePlayed makes declines old (calls_from terms me past frame (n + d)) new false
  unfolding calls_from
  calls_stopped terms me past frame n zero old new stopped =
      let same : n ≡ n + zero = omega arith in
      subst (λ (m : ℕ). ArePlayed makes declines old (calls_from terms me past frame m) new false) same stopped
  calls_stopped terms me past frame n (suc d) old new stopped =
      let next : suc (n + d) ≡ n + suc d = omega arith in
      subst (λ (m : ℕ). ArePlayed makes declines old (calls_from terms me past frame m) new false) next
      (stopped_before old new (calls_from terms me past frame (n + d)) (frame_calls terms me past (frame + (n + d))) (calls_stopped terms me past frame n d old new stopped))
