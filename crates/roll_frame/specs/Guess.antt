-- A guess of what a player does next, and the rows that are to be run for it.
use Rattle.std.specs.Prelude.{ℕ, ◌+◌, List, [], ◌∷◌, length, take, drop, not, Bool, true, nat_lt, Option, Some, None, if◌then◌else◌}
use Rattle.std.specs.Int.{is_in_range}
use Rattle.roll_frame.specs.declared.limits.TheConstants.{PATH_LIMIT, BRANCH_LIMIT}
use Rattle.roll_frame.specs.declared.refusal.Refusal.{Refusal}
use Rattle.roll_frame.specs.declared.refusal.Refusal.TheVariants.{InvalidPlayer, PlayerDisconnected, InvalidRequest}
use Rattle.roll_frame.specs.Cells.{Rows}
use Rattle.roll_frame.specs.Timeline.{Player, timeline}
use Rattle.roll_frame.specs.Inputs.{of_player, changed, with_words}
use Rattle.roll_frame.specs.Paths.{contains, longest}
use Rattle.roll_frame.specs.Core.{Core, settled, kept}
use Rattle.roll_frame.specs.Grafts.{Branch}

-- the first m rows of the timeline, if player p gave these words next
abbrev pub guessed_time : List Player → ℕ → List ℕ → ℕ → Rows
guessed_time players p words m = timeline (changed (with_words words) players p) m

-- the tests of a guess, among these players and over this settled frame: no player p; gone; not 1 to 24 words; an
-- end that isn't 1 to 24 rows past the settled frame, or is past the frame limit
abbrev pub words_tests : List Player → ℕ → ℕ → ℕ → List ℕ → ℕ → List (Bool × Refusal)
words_tests players base limit p words until =
    (not (of_player (λ player. true) players p), InvalidPlayer)
    ∷ (of_player (λ player. player.gone) players p, PlayerDisconnected)
    ∷ (not (is_in_range 1 PATH_LIMIT (length words)), InvalidRequest)
    ∷ (not (is_in_range (base + 1) (base + PATH_LIMIT) until), InvalidRequest)
    ∷ (nat_lt limit until, InvalidRequest)
    ∷ []

abbrev pub guess_tests : ℕ → Core → ℕ → List ℕ → ℕ → List (Bool × Refusal)
guess_tests limit core p words until = words_tests core.players (settled core) limit p words until

-- from the longest kept path that begins the rows, the next rows, at most 8
abbrev pub job_of : Core → Rows → Branch
job_of core rows =
    record {
      path = record { base = settled core; rows = record { items = drop (settled core) (take (longest (kept core) rows) rows) } };
      rows = take BRANCH_LIMIT (drop (longest (kept core) rows) rows);
    }

-- the job of a guess that is not refused; none where all of its rows are kept
abbrev pub guessed_job : Core → ℕ → List ℕ → ℕ → Option Branch
guessed_job core p words until =
    if contains (kept core) (guessed_time core.players p words until) then None
    else Some (job_of core (guessed_time core.players p words until))
