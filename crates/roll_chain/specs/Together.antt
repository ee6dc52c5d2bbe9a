-- Machines that stay together go on together.
use Rattle.std.specs.Prelude.{◌≡◌, ℕ, ◌<◌, List, Some, false, true}
use Rattle.roll_epoch.specs.Ends.{is_there}
use Rattle.roll_epoch.specs.declared.marks.Ending.{Ending}
use Rattle.roll_mesh.specs.Machines.{is_in}
use Rattle.roll_mesh.specs.Worlds.{Match}
use Rattle.roll_mesh.specs.declared.limits.TheConstants.{PLAYER_LIMIT}
use Rattle.roll_peer.specs.Marks.{mark_at}
use Rattle.roll_peer.specs.OneMatch.{IsHere}
use Rattle.roll_peer.specs.PeerWorlds.{AreSteps, IsPlayedTo, PeerWorld}
use Rattle.roll_peer.specs.Peered.{Peered}
use Rattle.roll_peer.specs.Requests.{Beside}
use Rattle.roll_session.specs.Seen.{Step}
use Rattle.roll_wire.specs.declared.datagram.Marked.{Marked}
use Rattle.roll_chain.specs.Judging.{is_void_by, IsEnding}
use Rattle.roll_chain.specs.Lasting.{KeepsVoids}
use Rattle.roll_chain.specs.Rows.{is_nobody, left_in}
use Rattle.roll_chain.specs.Seams.{next_terms}
use Rattle.roll_chain.specs.declared.chain.Chain.{Chain}

-- the marks that a machine knows of words before a frame, of players who hadn't left, were judged: those are void that are so
abbrev pub IsJudgedTo : (end : ℕ) → Chain → Peered → Type 0
IsJudgedTo end chain peer =
    (p : ℕ) (m : Marked) → p < PLAYER_LIMIT → is_nobody peer.member.mesh p ≡ false → mark_at peer.marks p ≡ Some m
    → m.frame < end → is_there (left_in peer.member.mesh p) m.frame ≡ true → is_in peer.voids p ≡ is_void_by chain p (Some m)

-- a machine of a world, which knows where its epoch ends
pub record EndsSo (world : PeerWorld) (machine : ℕ) (beside : Beside) (chain : Chain) (e : Ending) : Type 0 where
  pub is : world.machines machine ≡ Some beside
  pub judged : IsJudgedTo e.frame chain beside.peer
  pub ending : IsEnding chain beside.peer e

-- a machine that knew it in one world, and in a later one, in which its network of that epoch is still there, has found no mark before the
-- end void since then: so it is with a machine that has gone on
pub record EndedSo (world later : PeerWorld) (machine : ℕ) (before after : Beside) (chain : Chain) (e : Ending) : Type 0 where
  pub ends : EndsSo world machine before chain e
  pub is : later.machines machine ≡ Some after
  pub voids : KeepsVoids e.frame before.peer after.peer

-- whatever the machines of a match call, and whatever the network does with what they send: two of which neither regards the other as
-- gone, and that opened an epoch alike, find the same end of it, by the same mark, and open the next one alike, its number too; also
-- if one of them found the end, and went on, long before the other
abbrev pub TheyGoOnAtAnyTime : Type 0
TheyGoOnAtAnyTime =
    (match : Match) (games : ℕ → Step) (world later : PeerWorld) (worlds : List PeerWorld) (i j : ℕ) (a after b : Beside)
    (one other : Chain) (e f : Ending)
    → IsPlayedTo match games world → AreSteps match games world worlds later
    → EndedSo world later i a after one e → EndsSo later j b other f
    → IsHere after j → IsHere b i → one.terms ≡ other.terms → one.profile ≡ other.profile → one.comers ≡ other.comers
    → (e ≡ f) × (next_terms one a.peer e ≡ next_terms other b.peer f)
