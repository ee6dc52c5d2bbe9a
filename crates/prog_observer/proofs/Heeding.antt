-- Words that come one after another.
use Rattle.std.proofs.Common.{◌≡◌, ℕ, zero, suc, ◌+◌, ◌<◌, ◌≤◌, List, [], ◌∷◌, ◌++◌, length, drop, map, Option, Some, None, refl, sym, ap, ◌∙◌, arith, append_assoc, append-nil, add-one, min}
use Rattle.std.proofs.lemmas.List.{drop_all, drop_min}
use Rattle.std.specs.Prelude.{option_and_then, slice_get, unwrap_or}
use Rattle.std.specs.Option.{option_map, option_map_or}
use Rattle.roll_frame.specs.Timeline.{Player}
use Rattle.prog_observer.specs.Hearing.{heard_at}
use Rattle.prog_observer.specs.declared.hearing.Heard.{Heard}

-- the words of a player, if there is one
abbrev pub words : Option Player → List ℕ
words player = option_map_or (λ (p : Player). p.words) player []

-- the word of a frame; 0 where there is none
abbrev pub word_at : Option Player → ℕ → ℕ
word_at player t = unwrap_or (option_and_then (λ (p : Player). slice_get p.words t) player) 0

-- how many words there are
abbrev pub count_of : Option Player → ℕ
count_of player = unwrap_or (option_map (λ (p : Player). length p.words) player) 0

drop_get : (t : ℕ) (xs : List ℕ) → t < length xs → drop t xs ≡ unwrap_or (slice_get xs t) 0 ∷ drop (suc t) xs
drop_get t [] l = absurd (omega arith)
drop_get zero (x ∷ xs) l = refl
drop_get (suc t) (x ∷ xs) l = drop_get t xs (omega arith)

-- the words from a frame on are its word, and those from the next frame on
pub words_more : (player : Option Player) (t : ℕ) → t < count_of player
    → drop t (words player) ≡ word_at player t ∷ drop (t + 1) (words player)
words_more None t l = absurd (omega arith)
words_more (Some p) t l = rw add-one (drop_get t p.words l)

-- one more word has come
pub heard_more : (player : Option Player) (at : ℕ) (t : ℕ) (heard all : List Heard)
    → t < count_of player
    → heard ++ map (heard_at at) (drop t (words player)) ≡ all
    → (heard ++ heard_at at (word_at player t) ∷ []) ++ map (heard_at at) (drop (t + 1) (words player)) ≡ all
heard_more player at t heard all l so_far =
    append_assoc heard (heard_at at (word_at player t) ∷ []) (map (heard_at at) (drop (t + 1) (words player)))
    ∙ ap (λ ys. heard ++ map (heard_at at) ys) (sym (words_more player t l)) ∙ so_far

count_is : (player : Option Player) → count_of player ≡ length (words player)
count_is None = refl
count_is (Some p) = refl

-- all confirmed words have come
pub heard_all : (player : Option Player) (at : ℕ) (t first known : ℕ) (old heard : List Heard)
    → known ≤ t → first ≡ min (length old) known → known ≡ count_of player
    → heard ++ map (heard_at at) (drop t (words player)) ≡ old ++ map (heard_at at) (drop first (words player))
    → heard ≡ old ++ map (heard_at at) (drop (length old) (words player))
heard_all player at t first known old heard past first_is known_is so_far =
    let all : known ≡ length (words player) = known_is ∙ count_is player in
    let rest : drop t (words player) ≡ [] = drop_all t (words player) (omega arith) in
    let from : drop first (words player) ≡ drop (length old) (words player) =
    ap (λ n. drop n (words player)) (first_is ∙ ap (λ n. min (length old) n) all) ∙ drop_min (length old) (words player) in
    sym (append-nil heard) ∙ ap (λ ys. heard ++ map (heard_at at) ys) (sym rest) ∙ so_far
    ∙ ap (λ ys. old ++ map (heard_at at) ys) from
