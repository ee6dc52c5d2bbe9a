-- Two machines that stay play one match.
use Rattle.std.specs.Prelude.{◌≡◌, ◌≤◌, ℕ, List, Some, false}
use Rattle.roll_frame.specs.Core.{settled}
use Rattle.roll_frame.specs.Games.{Value}
use Rattle.roll_frame.specs.Paths.{run}
use Rattle.roll_frame.specs.Timeline.{timeline}
use Rattle.roll_frame.specs.declared.row.Cell.{Cell}
use Rattle.roll_member.specs.Beside.{IsOf}
use Rattle.roll_mesh.specs.Machines.{is_in, left_at}
use Rattle.roll_mesh.specs.Worlds.{Match}
use Rattle.roll_session.specs.Seen.{FollowsLog, Step}
use Rattle.roll_peer.specs.Known.{IsKnownTo}
use Rattle.roll_peer.specs.PeerWorlds.{IsPlayedTo, PeerWorld}
use Rattle.roll_peer.specs.Requests.{Beside}

-- a machine of a world, whose network knows its session: it wasn't told of others past the match
pub record IsMachine (step : Step) (world : PeerWorld) (machine : ℕ) (beside : Beside) : Type 0 where
  pub is : world.machines machine ≡ Some beside
  pub own : IsOf beside.session beside.peer.member
  pub follows : FollowsLog step beside.session

-- whether a machine regards another as gone
abbrev pub IsHere : Beside → ℕ → Type 0
IsHere beside machine = is_in beside.peer.member.mesh.machine.gone machine ≡ false

-- one game makes the same of a value and a row as the other
abbrev pub AreAlike : Step → Step → Type 0
AreAlike one other = (value : Value) (row : List Cell) → one value row ≡ other value row

-- up to a frame both have the same rows; games that are alike, and opened with the same value, come to the same state
-- there; and who has left both, left both at one frame
pub record AreOne (one other : Step) (a b : Beside) (frame : ℕ) : Type 0 where
  pub rows : timeline a.session.core.players frame ≡ timeline b.session.core.players frame
  pub states : AreAlike one other → a.session.opening ≡ b.session.opening
      → run one a.session.opening (timeline a.session.core.players frame)
      ≡ run other b.session.opening (timeline b.session.core.players frame)
  pub left : (player first second : ℕ) → left_at a.peer.member.mesh.machine player ≡ Some first
      → left_at b.peer.member.mesh.machine player ≡ Some second → first ≡ second

-- whatever the machines of a match call, and whatever the network does with what they send: two of which neither regards the other
-- as gone are one match up to each frame that both have settled
abbrev pub TwoPeersOneMatch : Type 0
TwoPeersOneMatch =
    (match : Match) (games : ℕ → Step) (world : PeerWorld) (i j : ℕ) (a b : Beside)
    → IsPlayedTo match games world → IsMachine (games i) world i a → IsMachine (games j) world j b
    → IsHere a j → IsHere b i
    → (frame : ℕ) → frame ≤ settled a.session.core → frame ≤ settled b.session.core
    → AreOne (games i) (games j) a b frame

-- and so they are up to each frame before which both know all rows, settled or not
abbrev pub TwoPeersKnowOne : Type 0
TwoPeersKnowOne =
    (match : Match) (games : ℕ → Step) (world : PeerWorld) (i j : ℕ) (a b : Beside)
    → IsPlayedTo match games world → IsMachine (games i) world i a → IsMachine (games j) world j b
    → IsHere a j → IsHere b i
    → (frame : ℕ) → IsKnownTo a.session frame → IsKnownTo b.session frame
    → AreOne (games i) (games j) a b frame
