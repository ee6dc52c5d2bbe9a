-- No step of a mesh makes it regard itself as gone.
use Rattle.std.proofs.Common.{◌≡◌, ℕ, [], false}
use Rattle.roll_mesh.specs.declared.machine.Machine.{Machine}
use Rattle.roll_mesh.specs.declared.packet.Packet.{Packet}
use Rattle.roll_mesh.specs.declared.seat.Seat.{Seat}
use Rattle.roll_mesh.specs.Machines.{is_in, give, leave, taken, left}
use Rattle.roll_mesh.specs.Meshes.{IsSeated}
use Rattle.roll_mesh.specs.Worlds.{Match}
use Rattle.roll_mesh.proofs.Changes.{give_changes, leave_changes, left_changes, gone_not_self}

-- the match of a seat
abbrev pub match_of : Seat → Match
match_of seat = record { owners = seat.owners; machines = seat.machines; words = seat.words }

seated : (seat : Seat) (old new : Machine) → IsSeated seat old
    → (is_in old.gone seat.me ≡ false → is_in new.gone seat.me ≡ false) → IsSeated seat new
seated seat old new s here = record {
  some = s.some;
  few = s.few;
  mine = s.mine;
  here =
      here s.here;
  word = s.word;
  words = s.words;
  grouped = s.grouped;
}

pub give_seated : (seat : Seat) (p : ℕ) (machine : Machine) → IsSeated seat machine
    → IsSeated seat (give seat p machine)
give_seated seat p machine s = seated seat machine (give seat p machine) s
    (give_changes (match_of seat) [] seat.me p machine).unfenced

pub leave_seated : (seat : Seat) (m : ℕ) (machine : Machine) → IsSeated seat machine
    → IsSeated seat (leave seat m machine)
leave_seated seat m machine s = seated seat machine (leave seat m machine) s
    (leave_changes (match_of seat) [] seat.me m machine).unfenced

pub left_seated : (seat : Seat) (machine : Machine) → IsSeated seat machine
    → IsSeated seat (left seat machine)
left_seated seat machine s = seated seat machine (left seat machine) s
    (left_changes (match_of seat) [] seat.me machine).unfenced

pub taken_seated : (seat : Seat) (packet : Packet) (machine : Machine) → IsSeated seat machine
    → IsSeated seat (taken seat packet machine)
unfolding taken
taken_seated seat packet machine s = seated seat machine (taken seat packet machine) s
    (gone_not_self (match_of seat) seat.me packet machine)
