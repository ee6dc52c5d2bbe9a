-- Who is heard in the epoch before is heard in this one too; and who is gone in one of the two is gone in both.
use Rattle.std.specs.Prelude.{ℕ, zero, suc, ◌||◌, ◌&&◌, List, Bool, not, if◌then◌else◌}
use Rattle.roll_epoch.specs.declared.terms.Terms.{Terms}
use Rattle.roll_mesh.specs.Machines.{is_in}
use Rattle.roll_peer.specs.Following.{heard_beside}
use Rattle.roll_peer.specs.Peered.{Peered}
use Rattle.roll_peer.specs.Turning.{without}
use Rattle.roll_chain.specs.Seams.{each_machine, owns}
use Rattle.roll_chain.specs.declared.chain.Chain.{Chain}

-- ---- who is heard

-- a machine is heard here too where it is in the epoch before, if it is in both
abbrev pub heard_at : List Bool → Peered → ℕ → Peered → Peered
heard_at stays past m peer = if is_in stays m then heard_beside m past peer else peer

-- those of the first machines that are
unfoldable pub heard_until : List Bool → Peered → ℕ → Peered → Peered
heard_until stays past zero peer = peer
heard_until stays past (suc m) peer = heard_at stays past m (heard_until stays past m peer)

-- ---- who is gone

-- whether a machine is in both epochs, and gone in one of them
abbrev pub is_gone_in_either : Chain → Peered → Peered → ℕ → Bool
is_gone_in_either chain peer past m =
    is_in chain.stays m && (is_in peer.member.mesh.machine.gone m || is_in past.member.mesh.machine.gone m)

abbrev pub gone_in_either : Chain → Peered → Peered → List Bool
gone_in_either chain peer past = each_machine (is_gone_in_either chain peer past)

-- which machines own no player of an epoch
abbrev pub is_vacant : Terms → ℕ → Bool
is_vacant terms m = not (owns terms.owners m)

abbrev pub vacant : Terms → List Bool
vacant terms = each_machine (is_vacant terms)

-- a machine is regarded as gone, if it is one of these
abbrev pub parted_at : List Bool → ℕ → Peered → Peered
parted_at gone m peer =
    if is_in gone m then record peer { member = record peer.member { mesh = without m peer.member.mesh } } else peer

-- those of the first machines that are
unfoldable pub parted_until : List Bool → ℕ → Peered → Peered
parted_until gone zero peer = peer
parted_until gone (suc m) peer = parted_at gone m (parted_until gone m peer)
