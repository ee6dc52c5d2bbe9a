-- A player alone is answered as the player among others; and the settled rows have its cells.
use Rattle.std.proofs.Common.{◌≡◌, ◌⊎◌, ℕ, ◌-◌, ◌<◌, List, [], ◌∷◌, length, get_or, Some, None, eqb, true, false, refl, ap, sym, ◌∙◌, subst, inl, inr}
use Rattle.std.specs.Prelude.{slice_get}
use Rattle.std.specs.Option.{option_map}
use Rattle.std.proofs.lemmas.Bool.{cases_Bool}
use Rattle.std.proofs.lemmas.Option.{slice_get-map, slice_get_within, get_or_from_slice_get, none-some}
use Rattle.roll_frame.specs.Cells.{Rows}
use Rattle.roll_frame.specs.Inputs.{player_at, is_repeated, remote_tests}
use Rattle.roll_frame.specs.Refusals.{first_refusal}
use Rattle.roll_frame.specs.Timeline.{Player, cell_at, row_at, timeline}
use Rattle.roll_frame.specs.declared.row.Cell.{Cell}
use Rattle.roll_frame.proofs.Timelines.{length_timeline, timeline_row}
use Rattle.roll_inputs.specs.Boards.{IsBoard, IsInStep, players_of, queue_at}
use Rattle.roll_inputs.specs.Queues.{Known, HasPast}
use Rattle.roll_inputs.proofs.Players.{queue_at-player, is_at}

pub alone_refused : (players : List Player) (p base f : ℕ) (x : Player) → player_at players p ≡ Some x → first_refusal (remote_tests (x ∷ []) base 1 f) ≡ first_refusal (remote_tests players base p f)
alone_refused players p base f x e = rw e refl

pub alone_repeated : (players : List Player) (p f word : ℕ) (x : Player) → player_at players p ≡ Some x → is_repeated (x ∷ []) 1 f word ≡ is_repeated players p f word
alone_repeated players p f word x e = rw e refl

-- a queue that was found, and its player
pub record IsFound (queues : List Known) (p : ℕ) (q : Known) : Type 0 where
  pub player : player_at (players_of queues) p ≡ Some q.player
  pub within : p - 1 < length queues
  pub there : get_or queues (p - 1) q ≡ q

pub queue_found : (queues : List Known) (p : ℕ) (q : Known) → Some q ≡ queue_at queues p → IsFound queues p q
queue_found queues p q e = by_number (cases_Bool (eqb p 0))
  where
    by_number : (eqb p 0 ≡ true) ⊎ (eqb p 0 ≡ false) → IsFound queues p q
    by_number (inl zeroth) = let none : Some q ≡ None = rw zeroth at e in absurd (none-some q (sym none))
    by_number (inr later) =
        let there : Some q ≡ slice_get queues (p - 1) = rw later at e in
        record {
          player = sym (queue_at-player queues p) ∙ ap (option_map (λ (k : Known). k.player)) (sym e);
          within = slice_get_within queues (p - 1) q (sym there);
          there = get_or_from_slice_get queues (p - 1) q q (sym there);
        }

pub found_step : (queues : List Known) (p frame settled threshold limit : ℕ) (q : Known) → IsBoard queues frame settled threshold limit → IsFound queues p q → IsInStep settled frame limit q
found_step queues p frame settled threshold limit q b h = subst (IsInStep settled frame limit) h.there (b.in_step (p - 1) q h.within)

-- the settled rows have the cells of the queue's player
pub has_past : (players : List Player) (past : Rows) (p settled : ℕ) (q : Known) → past ≡ timeline players settled → player_at players p ≡ Some q.player → q.from ≡ settled → HasPast q past (p - 1)
has_past players past p settled q is at from = record {
  rows = ap (λ (rows : Rows). length rows) is ∙ (length_timeline players settled ∙ sym from);
  cells = λ t before.
      let row : get_or past t [] ≡ row_at players t = ap (λ (rows : Rows). get_or rows t []) is ∙ timeline_row players settled t [] (subst (λ (n : ℕ). t < n) from before) in
      ap (λ (cells : List Cell). slice_get cells (p - 1)) row ∙ (slice_get-map (cell_at t) players (p - 1) ∙ ap (option_map (cell_at t)) (is_at players p q.player at).there);
}
