-- The judgement of a branch.
use Rattle.std.specs.Prelude.{ℕ, ◌+◌, ◌-◌, List, [], ◌∷◌, ◌++◌, length, take, max, filter, not, Bool, ◌&&◌, nat_lt, nat_le, nat_eq, ◌==◌}
use Rattle.std.specs.List.{list_all}
use Rattle.std.specs.Cmp.Lexicographic.{pointwise}
use Rattle.roll_frame.specs.declared.limits.TheConstants.{PATH_LIMIT}
use Rattle.roll_frame.specs.declared.refusal.Refusal.{Refusal}
use Rattle.roll_frame.specs.declared.refusal.Refusal.TheVariants.{Stranger, TooFar, Late, Orphan, Dead, TreeFull}
use Rattle.roll_frame.specs.declared.path.Path.{Path}
use Rattle.roll_frame.specs.Cells.{Rows}
use Rattle.roll_frame.specs.Timeline.{timeline}
use Rattle.roll_frame.specs.Paths.{contains, prefixes, run}
use Rattle.roll_frame.specs.Games.{Value, Game}
use Rattle.roll_frame.specs.Core.{Core, settled, kept, is_possible}

-- the path of a state, and the rows that were run from it
pub record Branch : Type 0 where
  pub path : Path
  pub rows : Rows

-- the path of the branch's state, from frame 0: the first settled rows, and then its own
abbrev pub start_of : Core → Branch → Rows
start_of core branch = timeline core.players branch.path.base ++ branch.path.rows.items

-- that path, and the rows that were run
abbrev pub whole_of : Core → Branch → Rows
whole_of core branch = start_of core branch ++ branch.rows

-- how long the anchor is: from there on the branch may be new
abbrev pub anchor_length : Core → Branch → ℕ
anchor_length core branch = max (length (start_of core branch)) (settled core)

abbrev pub anchor : Core → Branch → Rows
anchor core branch = take (anchor_length core branch) (whole_of core branch)

-- the prefixes of the whole that are longer than the anchor, possible and not kept yet
abbrev pub new_paths : Core → Branch → List Rows
new_paths core branch =
    filter (λ path. is_possible core.players path && not (contains (kept core) path))
    (prefixes (whole_of core branch) (anchor_length core branch) (length (whole_of core branch) - anchor_length core branch))

-- the value of the branch's state at the anchor, where its first state has this value
abbrev pub anchor_value : Game → Core → Value → Branch → Value
anchor_value game core value branch = run game.step value (take (anchor_length core branch - length (start_of core branch)) branch.rows)

abbrev pub same_value : Value → Value → Bool
same_value = pointwise nat_eq

-- whether each row has a cell for each player
abbrev pub are_rows_of : ℕ → Rows → Bool
are_rows_of players rows = list_all (λ row. length row == players) rows

-- the tests of a branch whose first state has this value, where branches may fill most kept states: it
-- starts past the settled frame; a row of another number of players; it ends over 24 rows past the settled
-- frame; nothing of it is past the settled frame; its anchor isn't possible; its anchor isn't kept; its
-- state there isn't the kept one; no room for what is new
abbrev pub graft_tests : Game → ℕ → Core → Value → Branch → List (Bool × Refusal)
graft_tests game most core value branch =
    (nat_lt (settled core) branch.path.base, Stranger)
    ∷ (not (are_rows_of (length core.players) (branch.path.rows.items ++ branch.rows)), Stranger)
    ∷ (nat_lt (settled core + PATH_LIMIT) (length (whole_of core branch)), TooFar)
    ∷ (nat_le (length (whole_of core branch)) (settled core), Late)
    ∷ (not (is_possible core.players (anchor core branch)), Dead)
    ∷ (not (contains (kept core) (anchor core branch)), Orphan)
    ∷ (not (same_value (anchor_value game core value branch) (run game.step game.opening (anchor core branch))), Stranger)
    ∷ (nat_lt 0 (length (new_paths core branch)) && nat_lt most (length (kept core) + length (new_paths core branch)), TreeFull)
    ∷ []
