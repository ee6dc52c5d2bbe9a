-- Texts in which no rollback is drawn.
use Rattle.std.specs.Prelude.{◌≡◌, ◌&&◌, ◌||◌, ◌==◌, ℕ, Bool, false, List, [], ◌∷◌}
use Rattle.std.specs.String.{string_bytes}
use Rattle.std.specs.declared.alloc.Global.{Global}
use Rattle.std.specs.declared.string.String.{String}

-- whether `<r` stands in a text, or may with what follows, where it matters whether a `<` stands right before the text
abbrev pub has_bar : Bool → List ℕ → Bool
has_bar is_open [] = is_open
has_bar is_open (b ∷ bs) = (is_open && b == 114) || has_bar (b == 60) bs

-- no rectangle begins in a text: a picture's rectangles are the bars of its rollbacks
pub record LacksBars (text : List ℕ) : Type 0 where
  pub none : has_bar false text ≡ false

-- what was written has no bar
abbrev pub AddsNoBar : String Global → String Global → Type 0
AddsNoBar old new = LacksBars (string_bytes old) → LacksBars (string_bytes new)
