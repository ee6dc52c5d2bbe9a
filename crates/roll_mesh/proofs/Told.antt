-- A packet that a machine tells offers no more than it says that its sender has.
use Rattle.std.proofs.Common.{◌≡◌, ℕ, List, length, true, sym, arith}
use Rattle.std.specs.Prelude.{nat_le, slice_index}
use Rattle.std.proofs.lemmas.Bool.{le-leb}
use Rattle.roll_mesh.specs.declared.machine.Machine.{Machine}
use Rattle.roll_mesh.specs.declared.seat.Seat.{Seat}
use Rattle.roll_mesh.specs.Machines.{offer_at, tell}
use Rattle.roll_mesh.specs.Meshes.{is_had}
use Rattle.roll_mesh.proofs.Invariant.{tells_had}
use Rattle.roll_mesh.proofs.Places.{all_places}
use Rattle.roll_mesh.proofs.Seats.{match_of}

pub told_had : (seat : Seat) (m : ℕ) (room : List ℕ) (machine : Machine)
    → is_had (tell seat m room machine) ≡ true
unfolding is_had tell
told_had seat m room machine =
    sym (all_places (λ p. nat_le (offer_at (tell seat m room machine) p).end
    (slice_index machine.has p)) machine.has (length machine.has) (omega arith)
    (λ p l. le-leb (offer_at (tell seat m room machine) p).end (slice_index machine.has p)
    (tells_had (match_of seat) seat.me m room machine p)))
