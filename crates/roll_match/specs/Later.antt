-- What is supposed of a machine that left an epoch stays so, whatever is called later.
use Rattle.std.specs.Prelude.{◌≡◌, ℕ, List, Some}
use Rattle.roll_chain.specs.Judging.{IsEnding}
use Rattle.roll_chain.specs.Lasting.{KeepsVoids}
use Rattle.roll_chain.specs.Seams.{next_terms}
use Rattle.roll_chain.specs.Together.{EndsSo, IsJudgedTo}
use Rattle.roll_chain.specs.declared.chain.Chain.{Chain}
use Rattle.roll_epoch.specs.declared.marks.Ending.{Ending}
use Rattle.roll_frame.specs.Events.{CoreEvent}
use Rattle.roll_mesh.specs.Worlds.{Match}
use Rattle.roll_chain.specs.States.{value_at}
use Rattle.roll_peer.specs.Known.{IsKnownTo}
use Rattle.roll_peer.specs.PeerWorlds.{AreSteps, IsPlayedTo, PeerWorld}
use Rattle.roll_peer.specs.Peered.{Peered}
use Rattle.roll_peer.specs.Requests.{Beside}
use Rattle.roll_session.specs.Answered.{IsPlayed}
use Rattle.roll_session.specs.Seen.{FollowsLog, Seen, Step}

-- ---- of its network

-- an epoch ends where it ended, its marks are judged up to there, and the next one has the same terms
pub record EndsAsBefore (chain : Chain) (before after : Peered) (e : Ending) : Type 0 where
  pub over : IsEnding chain after e
  pub judged : IsJudgedTo e.frame chain after
  pub next : next_terms chain after e ≡ next_terms chain before e

-- so it is of a machine's network of an epoch that ended in one world, and in each later one, unless it finds a mark before that end void since then
abbrev pub WhatEndedStays : Type 0
WhatEndedStays =
    (match : Match) (games : ℕ → Step) (world later : PeerWorld) (worlds : List PeerWorld) (machine : ℕ) (before after : Beside)
    (chain : Chain) (e : Ending)
    → IsPlayedTo match games world → AreSteps match games world worlds later
    → EndsSo world machine before chain e → later.machines machine ≡ Some after → KeepsVoids e.frame before.peer after.peer
    → EndsAsBefore chain before.peer after.peer e

-- ---- of its session

-- rows before a frame are known, and the session has the opening and the state there that it had
pub record IsKnownAsBefore (step : Step) (old new : Seen) (frame : ℕ) : Type 0 where
  pub known : IsKnownTo new frame
  pub opening : new.opening ≡ old.opening
  pub value : value_at step new frame ≡ value_at step old frame

-- so it is of rows that a session knew, whatever events come to it later
abbrev pub WhatIsKnownStays : Type 0
WhatIsKnownStays =
    (step : Step) (old new : Seen) (events : List CoreEvent) (frame : ℕ)
    → FollowsLog step old → IsPlayed step old new events → IsKnownTo old frame → IsKnownAsBefore step old new frame
