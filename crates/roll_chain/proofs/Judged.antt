-- Two machines that judge the same mark judge it alike.
use Rattle.std.proofs.Common.{◌≡◌, ◌∙◌, ℕ, sym, Some}
use Rattle.roll_mesh.specs.Machines.{is_in}
use Rattle.roll_epoch.specs.Ends.{is_void, owner_of}
use Rattle.roll_frame.specs.Settings.{most_threshold}
use Rattle.std.specs.Prelude.{◌||◌, nat_lt, not}
use Rattle.roll_peer.specs.Peered.{Peered}
use Rattle.roll_wire.specs.declared.datagram.Marked.{Marked}
use Rattle.roll_chain.specs.Comers.{is_vouched}
use Rattle.roll_chain.specs.Judging.{is_void_by}
use Rattle.roll_chain.specs.declared.chain.Chain.{Chain}

-- two machines that know a mark judge it alike
pub judged_alike : (one other : Chain) (a b : Peered) (p : ℕ) (m : Marked) → one.terms ≡ other.terms → one.profile ≡ other.profile
    → one.comers ≡ other.comers → is_in a.voids p ≡ is_void_by one p (Some m) → is_in b.voids p ≡ is_void_by other p (Some m)
    → is_in a.voids p ≡ is_in b.voids p
judged_alike one other a b p m terms profile comers judged_a judged_b =
    judged_a
    ∙ (λ k. nat_lt (most_threshold (profile k)) m.mark.threshold
    || (is_void m.mark (owner_of (terms k).owners p) (terms k) || not (is_vouched (comers k) m.mark.newcomer)))
    ∙ sym judged_b
