-- A guess as the saved states see it, and how it ends.
use Rattle.std.specs.Prelude.{◌≡◌, ◌⊎◌, ℕ, ◌-◌, List, ◌++◌, drop, length, take, nat_lt, true, false, if◌then◌else◌, Option, Some, None, Result, Ok, Err, option_map}
use Rattle.roll_branch.specs.Routed.{Routed}
use Rattle.roll_frame.specs.Cells.{Rows}
use Rattle.roll_frame.specs.Core.{Core, kept}
use Rattle.roll_frame.specs.Games.{Game, Value}
use Rattle.roll_frame.specs.Grafts.{Branch, start_of}
use Rattle.roll_frame.specs.Guess.{guess_tests, guessed_job, job_of}
use Rattle.roll_frame.specs.Inputs.{changed, with_words}
use Rattle.roll_frame.specs.Paths.{contains, longest, run}
use Rattle.roll_frame.specs.Refusals.{first_refusal}
use Rattle.roll_frame.specs.Timeline.{timeline}
use Rattle.roll_frame.specs.declared.limits.TheConstants.{BRANCH_LIMIT}
use Rattle.roll_frame.specs.declared.refusal.Refusal.{Refusal}
use Rattle.roll_frame.specs.declared.route.Route.{Route}
use Rattle.roll_game.specs.Counts.{counted}
use Rattle.roll_game.specs.declared.counts.Call.TheVariants.{Copy}
use Rattle.roll_game.specs.declared.counts.Counts.{Counts}
use Rattle.roll_inputs.specs.Boards.{Inputs}
use Rattle.roll_tree.specs.SavedStates.{paths_of}
use Rattle.roll_session.specs.Saves.{Standing}
use Rattle.roll_session.specs.Seen.{Seen, Step, game_of}
use Rattle.roll_session.specs.Standing.{rows_from}

-- the rows from the settled frame to another, if player p gave these words next
abbrev pub guessed_rows : Inputs → ℕ → List ℕ → ℕ → Rows
guessed_rows inputs p words until = rows_from (changed (with_words words) inputs.players p) inputs.settled (until - inputs.settled)

module _ {S : Type 0} where
  -- how many of these rows, from the settled frame on, are kept
  abbrev pub kept_of : Standing S → Rows → ℕ
  kept_of s rows = longest (paths_of s.tree) rows

  -- from the deepest saved state on their way, the next rows
  abbrev pub route_along : Standing S → Rows → Route
  route_along s rows =
      record {
        path = record { base = s.inputs.settled; rows = record { items = take (kept_of s rows) rows } };
        rows = record { items = take BRANCH_LIMIT (drop (kept_of s rows) rows) };
      }

  -- the job of these rows; none where all are kept
  abbrev pub job_along : Step → Value → Standing S → Rows → Option Routed
  job_along step opening s rows =
      if nat_lt (kept_of s rows) (length rows)
      then Some (record { ticket = 0; route = route_along s rows; from = run step opening (timeline s.inputs.players s.inputs.settled ++ take (kept_of s rows) rows) })
      else None

-- why a guess is refused, if it is
abbrev pub guess_refusal_of : Seen → ℕ → List ℕ → ℕ → Option Refusal
guess_refusal_of s p words until = first_refusal (guess_tests s.settings.limit s.core p words until)

-- the job of a branch that is to be run
abbrev pub job_from : Game → Core → Branch → Routed
job_from game core branch =
    record {
      ticket = 0;
      route = record { path = branch.path; rows = record { items = branch.rows } };
      from = run game.step game.opening (start_of core branch);
    }

-- the branch that is to be run of rows from frame 0 on; none where all of them are kept
abbrev pub rows_job : Core → Rows → Option Branch
rows_job core rows = if contains (kept core) rows then None else Some (job_of core rows)

-- the job of a guess that is not refused; none where all of its rows are kept
abbrev pub guess_job : Game → Core → ℕ → List ℕ → ℕ → Option Routed
guess_job game core p words until = option_map (job_from game core) (guessed_job core p words until)

abbrev pub guess_job_of : Step → Seen → ℕ → List ℕ → ℕ → Option Routed
guess_job_of step s p words until = guess_job (game_of step s) s.core p words until

-- what a game was asked for where a job was wanted: one copy where there is one, and no more than one, which it refused,
-- where memory ran out
abbrev pub IsCopied : Counts → Counts → Result (Option Routed) Refusal → Type 0
IsCopied old new (Ok None) = new ≡ old
IsCopied old new (Ok (Some job)) = new ≡ counted Copy true old
IsCopied old new (Err why) = (new ≡ old) ⊎ (new ≡ counted Copy false old)
