-- The last words of a player.
use Rattle.std.proofs.Common.{◌≡◌, ◌∙◌, ℕ, ◌+◌, ◌-◌, List, [], ◌∷◌, length, get_or, take, min, arith, refl, sym, ap, Option, Some, None}
use Rattle.std.specs.Prelude.{slice_get, unwrap_or}
use Rattle.std.proofs.lemmas.List.{get_or-take, length-take, take_all}
use Rattle.std.proofs.lemmas.Option.{get_or_from_slice_get, none-some, slice_get-get_or, slice_get_past, unwrap_or-slice_get}
use Rattle.roll_frame.specs.Inputs.{player_at}
use Rattle.roll_frame.specs.Timeline.{last_word, Player}
use Rattle.roll_inputs.proofs.Words.{last_word-append}
use Rattle.roll_inputs.specs.Boards.{confirmed_word}
use Rattle.roll_session.specs.Seen.{Seen}
use Rattle.roll_member.specs.Seam.{before_of, given_at, last_before, words_in}

no_word : (t : ℕ) → slice_get {X = ℕ} [] t ≡ None
no_word t = slice_get_past [] t (omega arith)

pub confirmed_in : (s : Seen) (p t : ℕ) → confirmed_word s.core.players (p + 1) t ≡ slice_get (words_in s p) t
confirmed_in s p t = go (player_at s.core.players (p + 1)) refl
  where
    go : (o : Option Player) → player_at s.core.players (p + 1) ≡ o → confirmed_word s.core.players (p + 1) t ≡ slice_get (words_in s p) t
    go None e = rw (e) (sym (no_word t))
    go (Some player) e = rw (e) refl

-- of no words before a frame there is the one before them
pub none_before : (s : Seen) (p end count : ℕ) → count ≡ min (length (words_in s p)) end → count ≡ 0
    → before_of s p ≡ last_before s p end
unfolding last_before
none_before s p end count e none = go (take end (words_in s p)) (length-take end (words_in s p) ∙ omega (arith, e, none))
  where
    go : (ws : List ℕ) → length ws ≡ 0 → before_of s p ≡ last_word (before_of s p) ws
    go [] e = refl
    go (w ∷ ws) e = absurd (omega arith)

pub last_is : (s : Seen) (p end count word : ℕ) → count ≡ min (length (words_in s p)) end → (count ≡ 0 → ⊥)
    → slice_get (words_in s p) (count - 1) ≡ Some word → word ≡ last_before s p end
unfolding last_before
last_is s p end count word e some at =
    let ws = words_in s p in
    let long : length (take end ws) ≡ count = length-take end ws ∙ omega (arith, e) in
    let last : last_word (before_of s p) (take end ws) ≡ get_or (take end ws) (length (take end ws) - 1) 0 =
    last_word-append (before_of s p) [] (take end ws) (omega (arith, long, some)) in
    sym (last ∙ ap (λ (k : ℕ). get_or (take end ws) (k - 1) 0) long
    ∙ get_or-take end ws (count - 1) 0 (omega (arith, e, some))
    ∙ get_or_from_slice_get ws (count - 1) word 0 at)

pub is_there : (s : Seen) (p end count : ℕ) → count ≡ min (length (words_in s p)) end → (count ≡ 0 → ⊥)
    → slice_get (words_in s p) (count - 1) ≡ None → ⊥
is_there s p end count e some at =
    none-some (get_or (words_in s p) (count - 1) 0)
    (sym at ∙ slice_get-get_or (words_in s p) (count - 1) 0 (omega (arith, e, some)))

pub given_is : (s : Seen) (p frame word : ℕ) → slice_get (words_in s p) frame ≡ Some word → word ≡ given_at s p frame
unfolding given_at
given_is s p frame word at =
    sym (get_or_from_slice_get (words_in s p) frame word (last_word (before_of s p) (words_in s p)) at)

pub last_again : (s : Seen) (p frame count : ℕ) → count ≡ length (words_in s p) → slice_get (words_in s p) frame ≡ None
    → last_before s p count ≡ given_at s p frame
unfolding last_before given_at
last_again s p frame count e at =
    let ws = words_in s p in
    let last = last_word (before_of s p) ws in
    ap (last_word (before_of s p)) (take_all count ws (omega (arith, e)))
    ∙ ap (λ (o : Option ℕ). unwrap_or o last) (sym at) ∙ unwrap_or-slice_get ws frame last
