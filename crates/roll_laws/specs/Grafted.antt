-- What a graft adds, what its states are worth, and why the graft of a job can be refused.
use Rattle.std.specs.Prelude.{◌≡◌, ℕ, suc, ◌+◌, ◌-◌, ◌≤◌, List, [], ◌∷◌, length, take, true, nat_lt, nat_le, Some, None, if◌then◌else◌}
use Rattle.roll_frame.specs.declared.entry.Entry.TheVariants.{Graft}
use Rattle.roll_frame.specs.declared.refusal.Refusal.TheVariants.{TreeFull, LogFull}
use Rattle.roll_frame.specs.declared.settings.Settings.{Settings}
use Rattle.roll_frame.specs.Cells.{Rows}
use Rattle.roll_frame.specs.Core.{Core, kept, row_possible}
use Rattle.roll_frame.specs.Events.{CoreEvent, is_accepted, refusal}
use Rattle.roll_frame.specs.Games.{Game, Value}
use Rattle.roll_frame.specs.Grafts.{Branch, start_of, whole_of, anchor, anchor_length, new_paths}
use Rattle.roll_frame.specs.Guess.{guess_tests, guessed_job}
use Rattle.roll_frame.specs.Paths.{contains, longest, prefixes, run}
use Rattle.roll_frame.specs.Refusals.{first_refusal}
use Rattle.roll_frame.specs.Settings.{open_to_branches}
use Rattle.roll_frame.specs.Timeline.{Player}
use Rattle.roll_laws.specs.Laws.{Always}

-- how many of the rows, from frame t on, are possible before the first that isn't
abbrev pub possible_rows : ℕ → List Player → Rows → ℕ
possible_rows t players [] = 0
possible_rows t players (row ∷ rows) = if row_possible t players row then suc (possible_rows (suc t) players rows) else 0

-- how far the whole of a branch is kept, and how far it is possible
abbrev pub kept_end : Core → Branch → ℕ
kept_end core branch = longest (kept core) (whole_of core branch)

abbrev pub possible_end : Core → Branch → ℕ
possible_end core branch = possible_rows 0 core.players (whole_of core branch)

-- a branch with a kept anchor adds its prefixes past the longest one that is kept, up to the longest possible one
abbrev pub NewPathsRun : Type 0
NewPathsRun = Always (λ settings core. (branch : Branch) → contains (kept core) (anchor core branch) ≡ true
    → new_paths core branch ≡ prefixes (whole_of core branch) (kept_end core branch) (possible_end core branch - kept_end core branch))

-- the event of a branch whose first state has this value
abbrev pub graft_of : ℕ → Branch → Value → CoreEvent
graft_of ticket branch value = record { entry = Graft ticket (record { path = branch.path; rows = record { items = branch.rows } }); value = value }

-- from its anchor on, each state of an accepted branch is worth the run of its path from the opening
abbrev pub AcceptedAreWorth : Type 0
AcceptedAreWorth =
    (settings : Settings) (game : Game) (core : Core) (ticket : ℕ) (branch : Branch) (value : Value) → is_accepted settings game core (graft_of ticket branch value) ≡ true
    → (n : ℕ) → anchor_length core branch ≤ n
    → run game.step value (take (n - length (start_of core branch)) branch.rows) ≡ run game.step game.opening (take n (whole_of core branch))

-- a job whose graft adds the path of each of its rows, and is refused for want of room alone: where the kept
-- states and its own are more than branches may fill, and then where the log is full
pub record IsAllNew (settings : Settings) (game : Game) (core : Core) (job : Branch) : Type 0 where
  pub adds : new_paths core job ≡ prefixes (whole_of core job) (length (start_of core job)) (length job.rows)
  pub refused : (ticket : ℕ)
      → refusal settings game core (graft_of ticket job (run game.step game.opening (start_of core job)))
      ≡ first_refusal ((nat_lt (open_to_branches settings.profile) (length (kept core) + length job.rows), TreeFull) ∷ (nat_le settings.log core.logged, LogFull) ∷ [])

-- the job of a guess that is not refused, grafted before any other event
abbrev pub JobsAreNew : Type 0
JobsAreNew = Always (λ settings core. (game : Game) (p until : ℕ) (words : List ℕ) (job : Branch)
    → first_refusal (guess_tests settings.limit core p words until) ≡ None → guessed_job core p words until ≡ Some job
    → IsAllNew settings game core job)
