-- A mark is put on the next word of a player of this machine, or found to be void.
use Rattle.std.specs.Prelude.{◌≡◌, ◌⊎◌, ℕ, ◌-◌, Bool, true, not, ◌&&◌, ◌==◌, nat_lt, length, is_some, Option, Some, None, if◌then◌else◌, slice_set}
use Rattle.roll_mesh.specs.Groups.{first_of}
use Rattle.roll_mesh.specs.Machines.{owner_of}
use Rattle.roll_mesh.specs.declared.limits.TheConstants.{PLAYER_LIMIT}
use Rattle.roll_mesh.specs.declared.seat.Seat.{Seat}
use Rattle.roll_session.specs.Headline.{words_of}
use Rattle.roll_session.specs.Seen.{Seen}
use Rattle.roll_wire.specs.Spelling.{has_players}
use Rattle.roll_wire.specs.declared.datagram.Mark.{Mark}
use Rattle.roll_peer.specs.Marks.{mark_at}
use Rattle.roll_peer.specs.Peered.{Peered}
use Rattle.roll_peer.specs.Receiving.{meeting, IsOther}
use Rattle.roll_peer.specs.declared.refusal.MarkRefusal.{MarkRefusal}
use Rattle.roll_peer.specs.declared.refusal.MarkRefusal.TheVariants.{NotTaken, NotOwn, Marked as MarkedAlready, NoPlayer, OtherSession}

-- whether there is such a player, counted from 1
abbrev pub is_numbered : ℕ → Bool
is_numbered player = not (player == 0) && not (nat_lt PLAYER_LIMIT player)

-- whether this machine can mark the next word of the player at a place: the first word of an input of its own
abbrev pub is_own_first : Seat → ℕ → Bool
is_own_first seat p = (owner_of seat p == seat.me) && (first_of seat.words p == p)

-- why no mark is put on a player's next word
unfoldable pub mark_refusal : Peered → ℕ → Mark → Option MarkRefusal
mark_refusal peer player mark =
    if not peer.settings.takes_marks then Some NotTaken
    else (if not (is_numbered player && is_own_first peer.member.mesh.seat (player - 1)) then Some NotOwn
    else (if is_some (mark_at peer.marks (player - 1)) then Some MarkedAlready
    else (if has_players mark.newcomer then None else Some NoPlayer)))

-- a mark is put on the word that a player gives next, whose frame is that of the session's first that it hasn't given
pub record IsMarkedAs (s : Seen) (old new : Peered) (player : ℕ) (mark : Mark) (frame : ℕ) : Type 0 where
  pub next : frame ≡ length (words_of s player)
  pub known : new ≡ record (meeting s old) {
    marks = slice_set old.marks (player - 1) (Some (record { frame = frame; mark = mark }));
  }

-- why it isn't: what is wrong with it, else that the session is another match's
abbrev pub IsWhyUnmarked : Seen → Peered → ℕ → Mark → MarkRefusal → Type 0
IsWhyUnmarked s peer player mark why =
    (mark_refusal peer player mark ≡ Some why)
    ⊎ (mark_refusal peer player mark ≡ None × (why ≡ OtherSession × IsOther s peer))

-- a player's mark is void
abbrev pub voided : Peered → ℕ → Peered
voided peer player =
    if is_numbered player then record peer { voids = slice_set peer.voids (player - 1) true } else peer
