-- Which marks count, and when an epoch is over.
use Rattle.std.specs.Prelude.{ℕ, zero, suc, ◌+◌, ◌-◌, ◌≤◌, ◌||◌, Bool, false, nat_lt, not, is_some, Option, None, Some, if◌then◌else◌}
use Rattle.roll_epoch.specs.Ends.{is_void, owner_of, IsEnd, Told}
use Rattle.roll_epoch.specs.Faults.{fault_of}
use Rattle.roll_epoch.specs.declared.faults.MarkFault.{MarkFault}
use Rattle.roll_epoch.specs.declared.faults.MarkFault.TheVariants.{Threshold, Ticket}
use Rattle.roll_epoch.specs.declared.marks.Ending.{Ending}
use Rattle.roll_frame.specs.Settings.{most_threshold}
use Rattle.roll_peer.specs.Marking.{is_numbered, voided}
use Rattle.roll_peer.specs.Marks.{mark_at}
use Rattle.roll_peer.specs.Peered.{Peered}
use Rattle.roll_session.specs.Seen.{Seen}
use Rattle.roll_wire.specs.declared.datagram.Mark.{Mark}
use Rattle.roll_wire.specs.declared.datagram.Marked.{Marked}
use Rattle.roll_chain.specs.Comers.{is_vouched}
use Rattle.roll_chain.specs.Rows.{counted_marks, lefts, rows_known}
use Rattle.roll_chain.specs.declared.chain.Chain.{Chain}

-- ---- which marks are void

-- whether the mark of player p is void, if it has one: its threshold is over that of the profile, or it is so by the rules of marks, or
-- nobody vouched for who is to come
abbrev pub is_void_by : Chain → ℕ → Option Marked → Bool
is_void_by chain p None = false
is_void_by chain p (Some m) =
    nat_lt (most_threshold chain.profile) m.mark.threshold
    || (is_void m.mark (owner_of chain.terms.owners p) chain.terms || not (is_vouched chain.comers m.mark.newcomer))

-- why a mark of player p is void, if it is: the first fault that it has; a threshold over the profile's is one
abbrev pub fault_by : Chain → ℕ → Mark → Option MarkFault
fault_by chain p mark =
    if nat_lt (most_threshold chain.profile) mark.threshold then Some Threshold
    else (if is_some (fault_of mark (owner_of chain.terms.owners p) chain.terms)
    then fault_of mark (owner_of chain.terms.owners p) chain.terms
    else (if is_vouched chain.comers mark.newcomer then None else Some Ticket))

-- the same of a player that is counted from 1, if there is such a one
abbrev pub mark_fault : Chain → ℕ → Mark → Option MarkFault
mark_fault chain player mark = if is_numbered player then fault_by chain (player - 1) mark else None

-- once the mark of player p was judged
abbrev pub judged_at : Chain → ℕ → Peered → Peered
judged_at chain p peer = if is_void_by chain p (mark_at peer.marks p) then voided peer (p + 1) else peer

-- once those of the first players were
unfoldable pub judged_until : Chain → ℕ → Peered → Peered
judged_until chain zero peer = peer
judged_until chain (suc p) peer = judged_at chain p (judged_until chain p peer)

-- ---- the end

-- what is known of the epoch: the marks that aren't void, and who left
abbrev pub told_by : Chain → Peered → Told
told_by chain peer = record {
  first = counted_marks peer;
  left = lefts peer.member.mesh;
  terms = chain.terms;
}

-- where an epoch ends, and by which mark, as far as its rows are known
pub record IsEnding (chain : Chain) (peer : Peered) (e : Ending) : Type 0 where
  pub end : IsEnd (told_by chain peer) (rows_known peer.member.mesh) e

-- an epoch is over beside a session that has come up to its end
pub record IsOver (s : Seen) (chain : Chain) (peer : Peered) (e : Ending) : Type 0 where
  pub ending : IsEnding chain peer e
  pub there : e.frame ≤ s.core.frame
