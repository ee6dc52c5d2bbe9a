-- Settings that are equal have the same first words.
use Rattle.std.proofs.Common.{◌≡◌, ℕ, List, refl}
use Rattle.std.specs.Prelude.{◌==◌}
use Rattle.std.specs.Bool.{Decides}
use Rattle.std.specs.Cmp.Lexicographic.{pointwise}
use Rattle.std.proofs.lemmas.Bool.Decides.{Decides-eqb}
use Rattle.std.proofs.lemmas.Slice.Eq.{slice_eq-Decides}

pub same_words : (ws vs : List ℕ) → Decides (pointwise (λ w v. w == v) ws vs) (ws ≡ vs)
same_words ws vs = slice_eq-Decides Decides-eqb ws vs (pointwise (λ w v. w == v) ws vs) refl

pub same_first : (all others : List (List ℕ)) → Decides (pointwise (pointwise (λ w v. w == v)) all others) (all ≡ others)
same_first all others = slice_eq-Decides same_words all others (pointwise (pointwise (λ w v. w == v)) all others) refl
