-- Machines that hold words back play one match with the others.
use Rattle.std.specs.Prelude.{◌≡◌, ◌≤◌, ℕ, List}
use Rattle.roll_frame.specs.Core.{settled}
use Rattle.roll_inputs.specs.declared.remote_word.RemoteWord.{RemoteWord}
use Rattle.roll_mesh.specs.Worlds.{Match}
use Rattle.roll_peer.specs.OneMatch.{AreOne, IsHere, IsMachine}
use Rattle.roll_peer.specs.PeerWorlds.{Continues, IsCalled, IsPlayedTo, PeerWorld}
use Rattle.roll_peer.specs.Requests.{Beside}
use Rattle.roll_session.specs.Seen.{FollowsLog, Seen, Step}
use Rattle.roll_relay.specs.Told.{as_told, Fits}

-- these words are held back from a machine's session; who holds none back has none that wait
pub record HoldsBack (step : Step) (s : Seen) (words : List RemoteWord) (b : Beside) : Type 0 where
  pub follows : FollowsLog step s
  pub fits : Fits s words
  pub room : ℕ
  pub is : b.session ≡ as_told s words room

-- two machines of a match of which neither regards the other as gone are one match up to each frame that the sessions themselves
-- have settled: whatever they hold back, whatever they call, and whatever the network does
abbrev pub HoldersAreOne : Type 0
HoldersAreOne =
    (match : Match) (games : ℕ → Step) (world : PeerWorld) (i j : ℕ) (a b : Beside) (s t : Seen) (words more : List RemoteWord)
    → IsPlayedTo match games world → IsMachine (games i) world i a → IsMachine (games j) world j b
    → IsHere a j → IsHere b i → HoldsBack (games i) s words a → HoldsBack (games j) t more b
    → (frame : ℕ) → frame ≤ settled s.core → frame ≤ settled t.core
    → AreOne (games i) (games j) (record a { session = s }) (record b { session = t }) frame

-- what a program calls of a session from which words are held back is a step of the match: to the network its words go on, as long
-- as those that wait are still its next ones
abbrev pub HoldersGoOn : Type 0
HoldersGoOn =
    (step : Step) (old new : Seen) (words : List RemoteWord) (room place : ℕ) → FollowsLog step old → IsCalled step old new
    → Fits old words → Fits new words → Continues (as_told old words room) (as_told new words place)
