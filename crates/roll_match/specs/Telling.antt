-- What a match makes of what its program tells it.
use Rattle.std.specs.Prelude.{◌≡◌, ℕ, Some, None, Result, Ok, Err}
use Rattle.roll_chain.specs.Judging.{mark_fault}
use Rattle.roll_mesh.specs.Machines.{leave}
use Rattle.roll_mesh.specs.Meshes.{stepped}
use Rattle.roll_peer.specs.Marking.{mark_refusal, IsMarkedAs, IsWhyUnmarked}
use Rattle.roll_peer.specs.Peered.{Peered}
use Rattle.roll_session.specs.Seen.{Seen}
use Rattle.roll_wire.specs.declared.datagram.Mark.{Mark}
use Rattle.roll_match.specs.Turning.{TellsAll}
use Rattle.roll_match.specs.declared.one.Match.{Match}
use Rattle.roll_match.specs.declared.unheard.Unmarked.{Unmarked}
use Rattle.roll_match.specs.declared.unheard.Unmarked.TheVariants.{Void, Refused, Held}

-- a network that regards a machine as gone
abbrev pub putting_out : ℕ → Peered → Peered
putting_out machine peer = record peer {
  member = record peer.member { mesh = stepped (λ seat here. leave seat machine here) peer.member.mesh };
}

module _ {S P E L : Type 0} where
  -- a mark is put on a player's next word beside a session that was told all that waited, or refused
  abbrev pub MarksTold : Seen → (player : ℕ) → Mark → (old new : Match S P E L) → Result ℕ Unmarked → Type 0
  MarksTold s player mark old new (Ok frame) =
      IsMarkedAs s old.peer new.peer player mark frame × (mark_refusal old.peer player mark ≡ None)
      × (new ≡ record old { peer = new.peer })
  MarksTold s player mark old new (Err (Refused why)) = IsWhyUnmarked s old.peer player mark why × (new ≡ old)
  MarksTold s player mark old new (Err (Void why)) = ⊥
  MarksTold s player mark old new (Err (Held why)) = ⊥

  pub record MarksAfter (seen : S → Seen) (player : ℕ) (mark : Mark) (before after : S) (old new : Match S P E L) (said : Result ℕ Unmarked)
      : Type 0 where
    pub counts : mark_fault old.epochs.chain player mark ≡ None
    pub told_all : Match S P E L
    pub tells : TellsAll seen before after old told_all (Ok tt)
    pub marks : MarksTold (seen after) player mark told_all new said

  -- the mark would be void; or the session is told all that waits, and then it is put there or refused; or there is no room for what waits
  abbrev pub Marks : (seen : S → Seen) → (player : ℕ) → Mark → (before after : S) → (old new : Match S P E L) → Result ℕ Unmarked → Type 0
  Marks seen player mark before after old new (Ok frame) = MarksAfter seen player mark before after old new (Ok frame)
  Marks seen player mark before after old new (Err (Void why)) =
      (mark_fault old.epochs.chain player mark ≡ Some why) × (after ≡ before) × (new ≡ old)
  Marks seen player mark before after old new (Err (Refused why)) = MarksAfter seen player mark before after old new (Err (Refused why))
  Marks seen player mark before after old new (Err (Held why)) =
      (mark_fault old.epochs.chain player mark ≡ None) × TellsAll seen before after old new (Err why)
