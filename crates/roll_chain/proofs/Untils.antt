-- What is done player by player, or machine by machine: nothing for none of them, and one more after the first so many.
use Rattle.std.proofs.Common.{◌≡◌, ℕ, suc, ◌+◌, List, Bool, ap, arith, refl}
use Rattle.std.specs.Prelude.{min}
use Rattle.roll_mesh.specs.Meshes.{Seated}
use Rattle.roll_peer.specs.Peered.{Peered}
use Rattle.roll_chain.specs.declared.rows.TheConstants.{ALL}
use Rattle.roll_chain.specs.Judging.{judged_at, judged_until}
use Rattle.roll_chain.specs.Rows.{rows_at, rows_until}
use Rattle.roll_chain.specs.Sharing.{heard_at, heard_until, parted_at, parted_until}
use Rattle.roll_chain.specs.declared.chain.Chain.{Chain}

after : (n : ℕ) → n + 1 ≡ suc n
after n = omega arith

pub rows_none : (mesh : Seated) → rows_until mesh 0 ≡ ALL
unfolding rows_until
rows_none mesh = refl

pub rows_next : (mesh : Seated) (p : ℕ) → rows_until mesh (p + 1) ≡ min (rows_until mesh p) (rows_at mesh p)
unfolding rows_until
rows_next mesh p = rw (after p) refl

pub judged_none : (chain : Chain) (peer : Peered) → judged_until chain 0 peer ≡ peer
unfolding judged_until
judged_none chain peer = refl

pub judged_next : (chain : Chain) (p : ℕ) (peer : Peered)
    → judged_until chain (p + 1) peer ≡ judged_at chain p (judged_until chain p peer)
unfolding judged_until
judged_next chain p peer = ap (λ n. judged_until chain n peer) (after p)

pub heard_none : (stays : List Bool) (past peer : Peered) → heard_until stays past 0 peer ≡ peer
unfolding heard_until
heard_none stays past peer = refl

pub heard_next : (stays : List Bool) (past : Peered) (m : ℕ) (peer : Peered)
    → heard_until stays past (m + 1) peer ≡ heard_at stays past m (heard_until stays past m peer)
unfolding heard_until
heard_next stays past m peer = ap (λ n. heard_until stays past n peer) (after m)

pub parted_none : (gone : List Bool) (peer : Peered) → parted_until gone 0 peer ≡ peer
unfolding parted_until
parted_none gone peer = refl

pub parted_next : (gone : List Bool) (m : ℕ) (peer : Peered)
    → parted_until gone (m + 1) peer ≡ parted_at gone m (parted_until gone m peer)
unfolding parted_until
parted_next gone m peer = rw (after m) refl
