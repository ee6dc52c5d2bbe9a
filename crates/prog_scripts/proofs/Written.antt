-- What a roll's line is, by what a session shows.
use Rattle.std.proofs.Common.{◌≡◌, ℕ, ◌-◌, ◌++◌, List, [], true, false, append_assoc, codes, refl, sym, ap, ◌∙◌, Option, Some, None}
use Rattle.std.specs.Prelude.{IfSome, is_none}
use Rattle.std.proofs.lemmas.Bool.{false≢true}
use Rattle.std.specs.Fmt.{decimal}
use Rattle.std.specs.Option.{option_map_or}
use Rattle.roll_frame.specs.Cells.{Rows}
use Rattle.roll_frame.specs.Core.{Core, Roll, end_of, settled}
use Rattle.roll_frame.specs.Games.{Game}
use Rattle.roll_frame.specs.Paths.{run}
use Rattle.roll_frame.specs.declared.row.Cell.{Cell}
use Rattle.roll_session.specs.Held.{Shows}
use Rattle.roll_plan.specs.declared.plan.Plan.{Plan}
use Rattle.roll_session.specs.Planned.{IsPlanOfRoll}
use Rattle.prog_scripts.specs.Output.{Texts, frame_line}

no_roll : (last : Option Roll) → true ≡ is_none last → last ≡ None
no_roll None e = refl
no_roll (Some roll) e = absurd (false≢true (sym e))

a_roll : (players : ℕ) (last : Option Roll) (plan : Plan) → false ≡ is_none last → IfSome last (λ roll. IsPlanOfRoll players roll plan) → (roll : Roll) × (last ≡ Some roll) × IsPlanOfRoll players roll plan
a_roll players None plan e h = absurd (false≢true e)
a_roll players (Some roll) plan e h = (roll, refl, h)

pub no_rows : {S : Type 0} (value : S → List ℕ) (step : List ℕ → List Cell → List ℕ) (x : List ℕ) (shown : Option Rows) → Shows value step x shown None → shown ≡ None
no_rows value step x None h = refl
no_rows value step x (Some rows) h = absurd h

some_rows : {S : Type 0} (value : S → List ℕ) (step : List ℕ → List Cell → List ℕ) (x : List ℕ) (shown : Option Rows) (state : S) → Shows value step x shown (Some state)
    → (rows : Rows) × (shown ≡ Some rows) × (value state ≡ run step x rows)
some_rows value step x None state h = absurd h
some_rows value step x (Some rows) state h = (rows, refl, h)

-- a roll's line, by what stands in it
abbrev line_with : Texts → Game → ℕ → ℕ → Option Roll → Option Rows → List ℕ
line_with texts game frame base last shown =
    option_map_or (λ roll. option_map_or (λ rows.
    codes "frame " ++ (decimal frame ++ (codes " from " ++ (decimal roll.from ++ (codes " rerun " ++ (decimal (end_of roll - roll.from) ++ (codes " settled " ++ (decimal base ++ (codes " state " ++ texts (run game.step game.opening rows))))))))))
    shown []) last []

line_is : (texts : Texts) (game : Game) (core : Core) → frame_line texts game core ≡ line_with texts game core.frame (settled core) core.last core.shown
unfolding frame_line
line_is texts game core = refl

no_rows_line : (texts : Texts) (game : Game) (frame base : ℕ) (last : Option Roll) → line_with texts game frame base last None ≡ []
no_rows_line texts game frame base None = refl
no_rows_line texts game frame base (Some roll) = refl

-- where there was no roll, or no state is shown, nothing is written
pub nothing_rolled : (texts : Texts) (game : Game) (core : Core) → true ≡ is_none core.last → frame_line texts game core ≡ []
nothing_rolled texts game core e = line_is texts game core ∙ ap (λ last. line_with texts game core.frame (settled core) last core.shown) (no_roll core.last e)

pub nothing_shown : {S : Type 0} (value : S → List ℕ) (texts : Texts) (game : Game) (core : Core) → Shows value game.step game.opening core.shown None → frame_line texts game core ≡ []
nothing_shown value texts game core h =
    line_is texts game core
    ∙ ap (λ shown. line_with texts game core.frame (settled core) core.last shown) (no_rows value game.step game.opening core.shown h)
    ∙ no_rows_line texts game core.frame (settled core) core.last

-- what is written of a roll
pub rolled_line : {S : Type 0} (value : S → List ℕ) (texts : Texts) (game : Game) (core : Core) (players : ℕ) (plan : Plan) (state : S) (frame base : ℕ)
    → false ≡ is_none core.last → IfSome core.last (λ roll. IsPlanOfRoll players roll plan) → Shows value game.step game.opening core.shown (Some state) → frame ≡ core.frame → base ≡ settled core
    → codes "frame " ++ (decimal frame ++ (codes " from " ++ (decimal plan.from ++ (codes " rerun " ++ (decimal plan.rerun ++ (codes " settled " ++ (decimal base ++ (codes " state " ++ texts (value state))))))))) ≡ frame_line texts game core
rolled_line value texts game core players plan state frame base some is h f b =
    let roll = a_roll players core.last plan some is in
    let rows = some_rows value game.step game.opening core.shown state h in
    ap (λ n. codes "frame " ++ (decimal frame ++ (codes " from " ++ (decimal n ++ (codes " rerun " ++ (decimal plan.rerun ++ (codes " settled " ++ (decimal base ++ (codes " state " ++ texts (value state)))))))))) roll.2.from
    ∙ ap (λ n. codes "frame " ++ (decimal frame ++ (codes " from " ++ (decimal roll.0.from ++ (codes " rerun " ++ (decimal n ++ (codes " settled " ++ (decimal base ++ (codes " state " ++ texts (value state)))))))))) roll.2.rerun
    ∙ ap (λ x. codes "frame " ++ (decimal frame ++ (codes " from " ++ (decimal roll.0.from ++ (codes " rerun " ++ (decimal (end_of roll.0 - roll.0.from) ++ (codes " settled " ++ (decimal base ++ (codes " state " ++ texts x))))))))) rows.2
    ∙ ap (λ n. line_with texts game n base (Some roll.0) (Some rows.0)) f
    ∙ ap (λ n. line_with texts game core.frame n (Some roll.0) (Some rows.0)) b
    ∙ sym (line_is texts game core
    ∙ ap (λ last. line_with texts game core.frame (settled core) last core.shown) roll.1
    ∙ ap (λ shown. line_with texts game core.frame (settled core) (Some roll.0) shown) rows.1)

-- six pieces, one after another
pub six_pieces : (o a b c d e f o1 o2 o3 o4 o5 o6 : List ℕ) → o1 ≡ o ++ a → o2 ≡ o1 ++ b → o3 ≡ o2 ++ c → o4 ≡ o3 ++ d → o5 ≡ o4 ++ e → o6 ≡ o5 ++ f → o6 ≡ o ++ (a ++ (b ++ (c ++ (d ++ (e ++ f)))))
six_pieces o a b c d e f o1 o2 o3 o4 o5 o6 h1 h2 h3 h4 h5 h6 = rw (h6, h5, h4, h3, h2, h1) (simp append_assoc refl)
