-- Lists of numbers that rise.
use Rattle.std.proofs.Common.{◌≡◌, ℕ, ◌+◌, ◌<◌, ◌≤◌, ◌++◌, List, [], ◌∷◌, refl, sym, ap, ◌∙◌, arith, length, map, get_or, take}
use Rattle.std.specs.Fmt.{decimal}
use Rattle.std.proofs.lemmas.List.{get_or-map, get_or-take, length-map, length-take}
use Rattle.roll_frame.specs.declared.limits.TheConstants.{PLAYER_LIMIT}
use Rattle.prog_scripts.specs.Headers.{IsRising}

-- the last number, or the one before the list
abbrev pub last_of : ℕ → List ℕ → ℕ
last_of before [] = before
last_of before (n ∷ ns) = last_of n ns

pub last_of-more : (before n : ℕ) (ns : List ℕ) → last_of before (ns ++ n ∷ []) ≡ n
last_of-more before n [] = refl
last_of-more before n (m ∷ ms) = last_of-more m n ms

pub rising_more : (least n : ℕ) (ns : List ℕ) → IsRising least ns → last_of least ns < n → n ≤ PLAYER_LIMIT → IsRising least (ns ++ n ∷ [])
rising_more least n [] h above most = (above, most, tt)
rising_more least n (m ∷ ms) h above most = (h.0, h.1, rising_more m n ms h.2 above most)

last_at : (n : ℕ) (ns : List ℕ) → get_or (n ∷ ns) (length ns) 0 ≡ last_of n ns
last_at n [] = refl
last_at n (m ∷ ms) = last_at m ms

-- the numbers so far are those of the first texts, and the next isn't above the last
pub not_rising : (texts : List (List ℕ)) (players : List ℕ) (count found before : ℕ) → map decimal players ≡ take count texts → count < length texts → get_or texts count [] ≡ decimal found
    → before ≡ last_of 0 players → 1 ≤ found → found ≤ before
    → (k : ℕ) × (k + 1 < length texts) × (get_or texts k [] ≡ decimal before) × (get_or texts (k + 1) [] ≡ decimal found) × (found ≤ before)
not_rising texts [] count found before same within here last some below = absurd (omega arith)
not_rising texts (p ∷ ps) count found before same within here last some below =
    let size : length ps + 1 ≡ count = omega (arith, ap length same, length-map (p ∷ ps) decimal, length-take count texts) in
    let same_last : get_or texts (length ps) [] ≡ decimal before =
    sym (get_or-take count texts (length ps) [] (omega arith)) ∙ ap (λ t. get_or t (length ps) []) (sym same)
    ∙ get_or-map decimal (p ∷ ps) (length ps) 0 [] (omega arith) ∙ ap decimal (last_at p ps ∙ sym last) in
    (length ps, omega arith, same_last, rw size here, below)
