-- Lists whose items are changed, or made, one after another.
use Rattle.std.proofs.Common.{◌≡◌, ◌∙◌, ℕ, ◌+◌, ◌<◌, List, [], ◌∷◌, ◌++◌, drop, get_or, length, map, take, ap, append_assoc, arith, length-take, set, sym}
use Rattle.std.proofs.lemmas.List.{drop_more, get_or-map, get_or_at, length-map, map-set, map_push, set_at, take_more}
use Rattle.std.proofs.lemmas.List.FromFn.{map-range_with_len_more}
use Rattle.std.specs.List.{range_with_len}
use Rattle.prog_observer.specs.Hearing.{heard_words, nothing_heard}
use Rattle.prog_observer.specs.declared.hearing.Hearing.{Hearing}

-- the next item of a list is changed
pub changed_more : {A B : Type 0} (f : A → B) (g : B → B) (xs old : List A) (i : ℕ) (d y : A)
    → map f xs ≡ map g (map f (take i old)) ++ map f (drop i old) → i < length old → length xs ≡ length old
    → f y ≡ g (f (get_or xs i d))
    → map f (set xs i y) ≡ map g (map f (take (i + 1) old)) ++ map f (drop (i + 1) old)
changed_more f g xs old i d y so_far l long is =
    let o = get_or old i d in
    let front = map g (map f (take i old)) in
    let back = map f (drop (i + 1) old) in
    let at : length front ≡ i = simp (length-map, length-take) (omega arith) in
    let parts : map f xs ≡ front ++ f o ∷ back = so_far ∙ ap (λ ys. front ++ map f ys) (drop_more old i d l) in
    let same : f (get_or xs i d) ≡ f o =
    sym (get_or-map f xs i d (f d) (omega arith)) ∙ ap (λ ys. get_or ys i (f d)) parts
    ∙ get_or_at front (f o) back (f d) i at in
    let changed : map g (map f (take (i + 1) old)) ≡ front ++ g (f o) ∷ [] =
    ap (λ ys. map g (map f ys)) (take_more old i d l)
    ∙ ap (map g) (map_push f (take i old) o) ∙ map_push g (map f (take i old)) (f o) in
    map-set f xs i y ∙ ap (λ ys. set ys i (f y)) parts ∙ set_at front (f o) back (f y) i at
    ∙ ap (λ z. front ++ z ∷ back) (is ∙ ap g same)
    ∙ sym (append_assoc front (g (f o) ∷ []) back) ∙ ap (λ ys. ys ++ back) (sym changed)

-- there is one more player of whom nothing was heard
pub hearing_more : (items more : List Hearing) (h : Hearing) (place : ℕ) → more ≡ items ++ h ∷ [] → h.player ≡ place + 1 → h.words.items ≡ []
    → map heard_words items ≡ map nothing_heard (range_with_len 1 place)
    → map heard_words more ≡ map nothing_heard (range_with_len 1 (place + 1))
hearing_more items more h place is player none so_far =
    let new : heard_words h ≡ nothing_heard (place + 1) = λ i. record { player = player i; words = none i } in
    ap (map heard_words) is ∙ map_push heard_words items h ∙ ap (λ ys. ys ++ heard_words h ∷ []) so_far
    ∙ ap (λ w. map nothing_heard (range_with_len 1 place) ++ w ∷ []) new
    ∙ sym (map-range_with_len_more nothing_heard 1 place (place + 1) (omega arith))
