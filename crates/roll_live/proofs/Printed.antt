-- What the line of a frame and its state is, by what a session shows.
use Rattle.std.proofs.Common.{◌≡◌, ℕ, ◌++◌, List, [], append_assoc, codes, refl, sym, ap, ◌∙◌, Option, Some, None}
use Rattle.std.specs.Fmt.{decimal}
use Rattle.std.specs.Option.{option_map_or}
use Rattle.roll_frame.specs.Cells.{Rows}
use Rattle.roll_frame.specs.Core.{Core}
use Rattle.roll_frame.specs.Games.{Game}
use Rattle.roll_frame.specs.Paths.{run}
use Rattle.roll_frame.specs.declared.row.Cell.{Cell}
use Rattle.roll_session.specs.Held.{Shows}
use Rattle.prog_scripts.specs.Output.{Texts}
use Rattle.prog_scripts.proofs.Written.{no_rows}
use Rattle.roll_live.specs.Told.{state_line}

some_rows : {S : Type 0} (value : S → List ℕ) (step : List ℕ → List Cell → List ℕ) (x : List ℕ) (shown : Option Rows) (state : S) → Shows value step x shown (Some state)
    → (rows : Rows) × (shown ≡ Some rows) × (value state ≡ run step x rows)
some_rows value step x None state h = absurd h
some_rows value step x (Some rows) state h = (rows, refl, h)

abbrev line_with : Texts → Game → ℕ → Option Rows → List ℕ
line_with texts game frame shown = option_map_or (λ rows. codes "frame " ++ (decimal frame ++ (codes " state " ++ texts (run game.step game.opening rows)))) shown []

line_is : (texts : Texts) (game : Game) (core : Core) → state_line texts game core ≡ line_with texts game core.frame core.shown
unfolding state_line
line_is texts game core = refl

pub nothing_shown : {S : Type 0} (value : S → List ℕ) (texts : Texts) (game : Game) (core : Core) → Shows value game.step game.opening core.shown None → state_line texts game core ≡ []
nothing_shown value texts game core h = line_is texts game core ∙ ap (λ shown. line_with texts game core.frame shown) (no_rows value game.step game.opening core.shown h)

pub state_shown : {S : Type 0} (value : S → List ℕ) (texts : Texts) (game : Game) (core : Core) (state : S) (frame : ℕ) → Shows value game.step game.opening core.shown (Some state) → frame ≡ core.frame
    → codes "frame " ++ (decimal frame ++ (codes " state " ++ texts (value state))) ≡ state_line texts game core
state_shown value texts game core state frame h f =
    let rows = some_rows value game.step game.opening core.shown state h in
    ap (λ x. codes "frame " ++ (decimal frame ++ (codes " state " ++ texts x))) rows.2
    ∙ ap (λ n. line_with texts game n (Some rows.0)) f
    ∙ sym (line_is texts game core ∙ ap (λ shown. line_with texts game core.frame shown) rows.1)

-- a name with its number, and two pieces after it
pub pieces : (o n d s t o1 o2 o3 : List ℕ) → o1 ≡ o ++ (n ++ d) → o2 ≡ o1 ++ s → o3 ≡ o2 ++ t → o3 ≡ o ++ (n ++ (d ++ (s ++ t)))
pieces o n d s t o1 o2 o3 h1 h2 h3 = rw (h3, h2, h1) (simp append_assoc refl)
