-- Rows that are known, player by player.
use Rattle.std.proofs.Common.{◌≡◌, ◌⊎◌, ℕ, ◌+◌, ◌<◌, ◌≤◌, List, [], ◌∷◌, ◌++◌, length, get_or, take, true, false, Some, None, refl, ap, sym, ◌∙◌, inl, inr, add-one, arith, length-append}
use Rattle.std.specs.Prelude.{option_and_then, slice_get}
use Rattle.std.proofs.Math.Seq.{take-suc}
use Rattle.std.proofs.lemmas.Bool.{cases_Bool}
use Rattle.std.proofs.lemmas.Grind.{common_steps}
use Rattle.std.proofs.lemmas.List.{map-append}
use Rattle.std.proofs.lemmas.List.Folds.{list_all-append, list_all_at}
use Rattle.std.proofs.lemmas.Option.{slice_get_cases}
use Rattle.roll_frame.specs.Core.{is_known}
use Rattle.roll_frame.specs.Inputs.{player_at}
use Rattle.roll_frame.specs.Timeline.{Player, cell_at, row_at}
use Rattle.roll_frame.specs.declared.row.Cell.{Cell}
use Rattle.roll_frame.specs.Core.{Core}
use Rattle.roll_frame.specs.declared.limits.TheConstants.{PLAYER_LIMIT}
use Rattle.roll_session.proofs.Holding.{is_small}
use Rattle.roll_session.specs.Seen.{game_of, FollowsLog, Seen, Step}
use Rattle.roll_peer.specs.Known.{is_row_known}
use Rattle.roll_chain.specs.Known.{known_cell}

-- the first of the players have these cells at frame t, and all are known
pub record AreCells (players : List Player) (t place : ℕ) (row : List Cell) : Type 0 where
  pub many : length row ≡ place
  pub cells : row ≡ row_at (take place players) t
  pub known : is_row_known (take place players) t ≡ true

player_next : (players : List Player) (p : ℕ) → player_at players (p + 1) ≡ slice_get players p
player_next players p = grind (arith, common_steps)

take_more : (players : List Player) (p : ℕ) (x : Player) → p < length players → get_or players p x ≡ x → take (p + 1) players ≡ take p players ++ x ∷ []
take_more players p x inside here =
    ap (λ k. take k players) (add-one p) ∙ take-suc players p x inside ∙ ap (λ y. take p players ++ y ∷ []) here

known_there : (t : ℕ) (x : Player) (cell : Cell) → known_cell t x ≡ Some cell → (is_known t x ≡ true) × (cell ≡ cell_at t x)
known_there t x cell is = go (cases_Bool (is_known t x))
  where
    go : (is_known t x ≡ true) ⊎ (is_known t x ≡ false) → (is_known t x ≡ true) × (cell ≡ cell_at t x)
    go (inl known) = (known, cc)
    go (inr not) = absurd (cc)

-- a player more
pub cells_more : (players : List Player) (t p : ℕ) (row : List Cell) (cell : Cell) → AreCells players t p row
    → option_and_then (known_cell t) (player_at players (p + 1)) ≡ Some cell → AreCells players t (p + 1) (row ++ cell ∷ [])
cells_more players t p row cell first is = go (slice_get_cases players p).1
  where
    here : option_and_then (known_cell t) (slice_get players p) ≡ Some cell
    here = ap (option_and_then (known_cell t)) (sym (player_next players p)) ∙ is

    go : ((x : Player) × (p < length players) × (slice_get players p ≡ Some x) × (get_or players p x ≡ x)) ⊎ ((length players ≤ p) × (slice_get players p ≡ None))
        → AreCells players t (p + 1) (row ++ cell ∷ [])
    go (inr past) = absurd (let e = ap (option_and_then (known_cell t)) (sym past.1) ∙ here in cc)
    go (inl found) =
        let x : Player = found.0 in
        let k = known_there t x cell (ap (option_and_then (known_cell t)) (sym found.2) ∙ here) in
        let more = take_more players p x found.1 found.3 in
        record {
          many = omega (arith, length-append row (cell ∷ []), first.many);
          cells = rw (more, map-append, ← first.cells, k.1) refl;
          known = rw (more, list_all-append, first.known, k.0) refl;
        }

pub cells_none : (players : List Player) (t : ℕ) → AreCells players t 0 []
cells_none players t = record { many = refl; cells = refl; known = refl }

-- a player whose cell isn't known
pub not_known : (players : List Player) (t p : ℕ) → p < length players → option_and_then (known_cell t) (player_at players (p + 1)) ≡ None
    → is_row_known players t ≡ false
not_known players t p inside is = go (slice_get_cases players p).1
  where
    here : option_and_then (known_cell t) (slice_get players p) ≡ None
    here = ap (option_and_then (known_cell t)) (sym (player_next players p)) ∙ is

    by_case : (x : Player) → slice_get players p ≡ Some x → get_or players p x ≡ x → (is_known t x ≡ true) ⊎ (is_known t x ≡ false) → is_row_known players t ≡ false
    by_case x there same (inr not) = list_all_at (is_known t) players p x inside (ap (is_known t) same ∙ not)
    by_case x there same (inl known) = absurd (let e = ap (option_and_then (known_cell t)) (sym there) ∙ here in cc)

    go : ((x : Player) × (p < length players) × (slice_get players p ≡ Some x) × (get_or players p x ≡ x)) ⊎ ((length players ≤ p) × (slice_get players p ≡ None))
        → is_row_known players t ≡ false
    go (inr past) = absurd (omega (arith, inside, past.0))
    go (inl found) = by_case found.0 found.2 found.3 (cases_Bool (is_known t found.0))

-- there is a player, and no more than there may be
pub some_players : (step : Step) (s : Seen) → FollowsLog step s → (0 < length s.core.players) × (length s.core.players ≤ PLAYER_LIMIT)
some_players step s follows =
    let small = is_small s.settings (game_of step s) s.log follows.log in
    let same = ap (λ (core : Core). length core.players) follows.core in
    (omega (arith, small.some, same), omega (arith, small.few, same))
