-- An epoch that is over stays over.
use Rattle.std.specs.Prelude.{◌≡◌, ℕ, ◌<◌, ◌≤◌, List, Some}
use Rattle.roll_epoch.specs.declared.marks.Ending.{Ending}
use Rattle.roll_mesh.specs.Machines.{is_in, left_at}
use Rattle.roll_mesh.specs.Worlds.{Match}
use Rattle.roll_mesh.specs.declared.limits.TheConstants.{PLAYER_LIMIT}
use Rattle.roll_peer.specs.MarkLaws.{has_of}
use Rattle.roll_peer.specs.Marks.{mark_at}
use Rattle.roll_peer.specs.PeerWorlds.{AreSteps, IsPlayedTo, PeerWorld}
use Rattle.roll_peer.specs.Peered.{Peered}
use Rattle.roll_peer.specs.Requests.{Beside}
use Rattle.roll_session.specs.Seen.{Step}
use Rattle.roll_wire.specs.declared.datagram.Marked.{Marked}
use Rattle.roll_chain.specs.Judging.{IsEnding}
use Rattle.roll_chain.specs.declared.chain.Chain.{Chain}

-- what becomes of the network of an epoch: a mark that it knows stays, and it learns of none of a word that it had; it has no fewer words;
-- who has left has left, at as many words as there are, and nobody leaves at fewer
pub record IsLater (old new : Peered) : Type 0 where
  pub seat : new.member.mesh.seat ≡ old.member.mesh.seat
  pub keeps : (p : ℕ) (m : Marked) → p < PLAYER_LIMIT → mark_at old.marks p ≡ Some m → mark_at new.marks p ≡ Some m
  pub learns : (p : ℕ) (m : Marked) → p < PLAYER_LIMIT → m.frame < has_of old p
      → mark_at new.marks p ≡ Some m → mark_at old.marks p ≡ Some m
  pub rises : (p : ℕ) → p < PLAYER_LIMIT → has_of old p ≤ has_of new p
  pub left : (p n : ℕ) → left_at old.member.mesh.machine p ≡ Some n → left_at new.member.mesh.machine p ≡ Some n
  pub had : (p n : ℕ) → left_at old.member.mesh.machine p ≡ Some n → has_of old p ≡ n
  pub leaves : (p n : ℕ) → p < PLAYER_LIMIT → left_at new.member.mesh.machine p ≡ Some n → has_of old p ≤ n

-- whatever the machines of a match call after a moment, a machine's network is later in this way what it was then
abbrev pub ItIsLater : Type 0
ItIsLater =
    (match : Match) (games : ℕ → Step) (world later : PeerWorld) (worlds : List PeerWorld) (i : ℕ) (a b : Beside)
    → IsPlayedTo match games world → AreSteps match games world worlds later → world.machines i ≡ Some a
    → later.machines i ≡ Some b → IsLater a.peer b.peer

-- those marks of words before a frame that were void are void, and no others
abbrev pub KeepsVoids : (end : ℕ) → (old new : Peered) → Type 0
KeepsVoids end old new =
    (p : ℕ) (m : Marked) → p < PLAYER_LIMIT → mark_at old.marks p ≡ Some m → m.frame < end → is_in new.voids p ≡ is_in old.voids p

-- so where its epoch ends stays as it is, by the same mark, if it finds no mark before that void any more
abbrev pub OverStays : Type 0
OverStays =
    (chain : Chain) (old new : Peered) (e : Ending) → IsLater old new → KeepsVoids e.frame old new → IsEnding chain old e
    → IsEnding chain new e
