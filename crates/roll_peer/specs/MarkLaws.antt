-- Machines of a match that have a word know the same mark of it.
use Rattle.std.specs.Prelude.{◌≡◌, ℕ, ◌-◌, ◌<◌, ◌==◌, List, Option, Some, None, if◌then◌else◌, slice_index}
use Rattle.roll_mesh.specs.declared.limits.TheConstants.{PLAYER_LIMIT}
use Rattle.roll_mesh.specs.Laws.{owner_in}
use Rattle.roll_mesh.specs.Worlds.{Match}
use Rattle.roll_session.specs.Seen.{Step}
use Rattle.roll_wire.specs.declared.datagram.Mark.{Mark}
use Rattle.roll_wire.specs.declared.datagram.Marked.{Marked}
use Rattle.roll_peer.specs.Marks.{mark_at}
use Rattle.roll_peer.specs.PeerWorlds.{Acts, AreSteps, IsPlayedTo, IsStep, PeerWorld, PutsMark}
use Rattle.roll_peer.specs.Peered.{Peered}
use Rattle.roll_peer.specs.Requests.{Beside}

-- the mark of a player's word of a frame, by the mark that is known of the player
abbrev pub mark_for : Option Marked → (frame : ℕ) → Option Mark
mark_for None frame = None
mark_for (Some m) frame = if m.frame == frame then Some m.mark else None

-- the mark that a machine knows of a word
abbrev pub mark_of_word : Peered → (p frame : ℕ) → Option Mark
mark_of_word peer p frame = mark_for (mark_at peer.marks p) frame

-- how many words of a player a machine has
abbrev pub has_of : Peered → ℕ → ℕ
has_of peer p = slice_index peer.member.mesh.machine.has p

-- a machine of a world has a player's word of a frame
pub record HasWord (world : PeerWorld) (machine : ℕ) (beside : Beside) (p frame : ℕ) : Type 0 where
  pub is : world.machines machine ≡ Some beside
  pub there : frame < has_of beside.peer p

-- whatever the machines of a match call, and whatever the network does with what they send: who has a word knows the same mark of it
-- as the player's owner, or none if the owner knows none
abbrev pub WhoHasTheWordHasItsMark : Type 0
WhoHasTheWordHasItsMark =
    (match : Match) (games : ℕ → Step) (world : PeerWorld) (i p frame : ℕ) (a owner : Beside)
    → IsPlayedTo match games world → p < PLAYER_LIMIT → HasWord world i a p frame
    → world.machines (owner_in match p) ≡ Some owner
    → mark_of_word a.peer p frame ≡ mark_of_word owner.peer p frame

-- so two that have a word know the same of its mark, whoever is gone for whom
abbrev pub TheyKnowOneMark : Type 0
TheyKnowOneMark =
    (match : Match) (games : ℕ → Step) (world : PeerWorld) (i j p frame : ℕ) (a b : Beside)
    → IsPlayedTo match games world → p < PLAYER_LIMIT → HasWord world i a p frame → HasWord world j b p frame
    → mark_of_word a.peer p frame ≡ mark_of_word b.peer p frame

-- a step in which a machine puts a mark on a player's next word, which is that of this frame
pub record PutsIn (match : Match) (games : ℕ → Step) (old new : PeerWorld) (player : ℕ) (mark : Mark) (frame : ℕ) : Type 0 where
  pub step : IsStep match games old new
  pub acts : Acts (games step.machine) old new step.machine
  pub deed : acts.deed ≡ PutsMark player mark frame

-- and a mark that was put on a word is known from then on to each that has the word
abbrev pub WhatWasPutIsKnown : Type 0
WhatWasPutIsKnown =
    (match : Match) (games : ℕ → Step) (old next world : PeerWorld) (worlds : List PeerWorld)
    (player frame i : ℕ) (mark : Mark) (b : Beside)
    → IsPlayedTo match games old → PutsIn match games old next player mark frame → AreSteps match games next worlds world
    → HasWord world i b (player - 1) frame → mark_of_word b.peer (player - 1) frame ≡ Some mark
