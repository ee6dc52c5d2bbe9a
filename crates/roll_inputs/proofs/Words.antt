-- One more word, in the ring and in the whole list.
use Rattle.std.proofs.Common.{◌≡◌, ℕ, zero, suc, ◌+◌, ◌-◌, ◌<◌, ◌≤◌, List, [], ◌∷◌, ◌++◌, length, drop, get_or, false, refl, ap, sym, ◌∙◌, arith, length-append}
use Rattle.std.specs.Prelude.{bit_and}
use Rattle.std.proofs.lemmas.Bool.{le-ltb}
use Rattle.std.proofs.lemmas.List.{drop-append-le}
use Rattle.std.proofs.lemmas.Grind.{common_steps}
use Rattle.circular_buffer.specs.Buffer.{keep_last}
use Rattle.roll_frame.specs.declared.row.Cell.TheVariants.{Word}
use Rattle.roll_frame.specs.Inputs.{with_words}
use Rattle.roll_frame.specs.Timeline.{Player, cell_at, last_word}

pub last_word-push : (before : ℕ) (words : List ℕ) (word : ℕ) → last_word before (words ++ word ∷ []) ≡ word
last_word-push before [] word = refl
last_word-push before (first ∷ words) word = last_word-push first words word

-- a ring that has the words from a frame on, and room for one more, takes the next
pub keep_last-push : (ring words : List ℕ) (from room word : ℕ) → ring ≡ drop from words → from ≤ length words → length words < from + room → keep_last room (ring ++ word ∷ []) ≡ drop from (words ++ word ∷ [])
keep_last-push ring words from room word is within fits =
    let few : length ring < room = rw is (grind (arith, common_steps)) in
    let none : length (ring ++ word ∷ []) - room ≡ 0 = omega (arith, length-append ring (word ∷ [])) in
    ap (λ (k : ℕ). drop k (ring ++ word ∷ [])) none ∙ (ap (λ (ws : List ℕ). ws ++ word ∷ []) is ∙ sym (drop-append-le from words (word ∷ []) within))

last_word-at : (before : ℕ) (words : List ℕ) (k : ℕ) → length words ≡ suc k → last_word before words ≡ get_or words k 0
last_word-at before [] k e = absurd (omega arith)
last_word-at before (word ∷ []) zero e = refl
last_word-at before (word ∷ []) (suc k) e = absurd (omega arith)
last_word-at before (word ∷ next ∷ words) zero e = absurd (omega arith)
last_word-at before (word ∷ next ∷ words) (suc k) e = last_word-at word (next ∷ words) k (omega arith)

-- the last word, where words came after others
pub last_word-append : (before : ℕ) (words more : List ℕ) → 1 ≤ length more → last_word before (words ++ more) ≡ get_or more (length more - 1) 0
last_word-append before [] more some = last_word-at before more (length more - 1) (omega arith)
last_word-append before (first ∷ words) more some = last_word-append first words more some

-- what is predicted past the words that a player is guessed to give
pub guessed_past : (t : ℕ) (player : Player) (words : List ℕ) → player.gone ≡ false → 1 ≤ length words → length player.words + length words ≤ t → cell_at t (with_words words player) ≡ Word (bit_and (get_or words (length words - 1) 0) player.mask)
guessed_past t player words there some past =
    let long : length (player.words ++ words) ≤ t = omega (arith, past, length-append player.words words) in
    rw (le-ltb t (length (player.words ++ words)) long, there) (ap (λ w. Word (bit_and w player.mask)) (last_word-append player.before player.words words some))

-- the cell of a player of whom a word more is told
pub next_cell : (t word : ℕ) (x : Player) → x.gone ≡ false → length x.words < t → cell_at t (with_words (word ∷ []) x) ≡ Word (bit_and word x.mask)
next_cell t word x there past =
    let long : length (x.words ++ word ∷ []) ≤ t = omega (arith, past, length-append x.words (word ∷ [])) in
    rw (le-ltb t (length (x.words ++ word ∷ [])) long, there) (ap (λ w. Word (bit_and w x.mask)) (last_word-push x.before x.words word))
