-- Jobs that are carried out late.
use Rattle.std.specs.Prelude.{◌≡◌, ℕ, List, ◌++◌, All, IsSome}
use Rattle.roll_frame.specs.Games.{Value}
use Rattle.roll_session.specs.Seen.{Step}
use Rattle.roll_requests.specs.Carried.{Elsewhere, carried_all}
use Rattle.roll_requests.specs.Requests.{requests_of, IsApart, IsBegun}
use Rattle.roll_requests.specs.Slotted.{Guessed}
use Rattle.roll_requests.specs.declared.request.Request.{Request}

-- the same state is current, and the same is in each slot
pub record AreAlike (one two : Elsewhere Value) : Type 0 where
  pub current : one.current ≡ two.current
  pub slots : (slot : ℕ) → one.slots slot ≡ two.slots slot

-- whether a job is carried out before requests that are nothing to it or after them comes to the same, if the state that it
-- starts from is in its slot
abbrev pub MayWait : Step → Elsewhere Value → Guessed → List Request → Type 0
MayWait step there job requests =
    IsSome (there.slots job.start) → IsBegun requests → All (IsApart job) requests
    → AreAlike (carried_all step (requests_of job ++ requests) there) (carried_all step (requests ++ requests_of job) there)
