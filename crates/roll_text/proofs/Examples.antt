-- What the definitions give, by computation.
use Rattle.std.proofs.Common.{◌≡◌, [], ◌∷◌, codes, refl}
use Rattle.roll_text.specs.Lines.{lines_of, text_of}

lines-ended : lines_of (codes "S\n\nL 1 0\n") ≡ codes "S\n" ∷ codes "\n" ∷ codes "L 1 0\n" ∷ []
lines-ended = refl

lines-unended : lines_of (codes "S\nA") ≡ codes "S\n" ∷ codes "A" ∷ []
lines-unended = refl

text-ended : text_of (codes "S" ∷ [] ∷ codes "L 1 0" ∷ []) ≡ codes "S\n\nL 1 0\n"
text-ended = refl
