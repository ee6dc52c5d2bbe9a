-- A fold over one element more of a list.
use Rattle.std.proofs.Common.{◌≡◌, ℕ, ◌+◌, ◌<◌, List, [], ◌∷◌, length, take, get_or, fold, ◌∙◌, ap}
use Rattle.std.proofs.lemmas.List.{take_more}
use Rattle.std.proofs.lemmas.List.Sums.{fold-append}

pub fold_more : {A B : Type 0} (f : B → A → B) (a : B) (xs : List A) (i : ℕ) (d : A) → i < length xs
    → fold f a (take (i + 1) xs) ≡ f (fold f a (take i xs)) (get_or xs i d)
fold_more f a xs i d within = ap (fold f a) (take_more xs i d within) ∙ fold-append f a (take i xs) (get_or xs i d ∷ [])
