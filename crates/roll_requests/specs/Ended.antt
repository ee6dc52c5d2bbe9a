-- How a session of a game elsewhere ends, and what its last requests lead to, for every game.
use Rattle.std.specs.Prelude.{◌≡◌, ◌≤◌, ℕ, ◌+◌, ◌-◌, List, ◌++◌, nat_lt, Option, Some, None, if◌then◌else◌}
use Rattle.roll_frame.specs.Core.{Core, settled}
use Rattle.roll_frame.specs.Games.{Value}
use Rattle.roll_frame.specs.Paths.{run}
use Rattle.roll_frame.specs.Timeline.{Player, row_at, timeline}
use Rattle.roll_frame.specs.declared.refusal.Refusal.{Refusal}
use Rattle.roll_frame.specs.declared.refusal.Refusal.TheVariants.{InvalidRequest}
use Rattle.roll_frame.specs.declared.row.Cell.{Cell}
use Rattle.roll_session.specs.Gameless.{Bare}
use Rattle.roll_session.specs.Seen.{Step}
use Rattle.roll_requests.specs.Asked.{Asked, IsSettledSlot, Leads}
use Rattle.roll_requests.specs.Carried.{carried_out, first}
use Rattle.roll_requests.specs.Late.{AreAlike}
use Rattle.roll_requests.specs.Requests.{end_requests}
use Rattle.roll_requests.specs.declared.request.Request.{Request}

-- why a session can't end at a frame, if there is memory: it lies before the settled one
abbrev pub end_refusal : Core → ℕ → Option Refusal
end_refusal core end = if nat_lt end (settled core) then Some InvalidRequest else None

-- the timeline's rows from the settled frame on
abbrev pub open_row : Core → ℕ → List Cell
open_row core k = row_at core.players (settled core + k)

-- carrying these requests out leads every game to where it stands at its start, if its opening is the state that the timeline
-- leads to at a frame: that state is current, and in slot 0, and no other slot has one
pub record IsOpenedAt (players : List Player) (frame : ℕ) (requests : List Request) : Type 0 where
  pub there : (step : Step) (opening : Value) → AreAlike (carried_out step opening requests) (first (run step opening (timeline players frame)))

-- a session ended at a frame by these last requests: from the settled state on the rows up to there are run, and all slots are freed
-- before the state is saved; so the next session can start from it
pub record IsEnded (e : Asked) (end : ℕ) (ended : Bare ℕ) (closing : List Request) : Type 0 where
  pub within : settled e.seen.core ≤ end
  pub seen : ended.seen ≡ e.seen
  pub slot : ℕ
  pub slot_is : IsSettledSlot e.saves.tree slot
  pub asked : closing ≡ e.requests ++ end_requests e.at slot e.taken (open_row e.seen.core) (end - settled e.seen.core)
  pub opens : (past : List Request) → Leads past e → IsOpenedAt e.seen.core.players end (past ++ closing)
