use Rattle.std.proofs.Common.{refl}
use Rattle.roll_peer.proofs.peer.Peer.open.Goals as goal

pub returns-in-Ok-take_seat-clause-opened : goal.returns-in-Ok-take_seat-clause-opened
returns-in-Ok-take_seat-clause-opened g c = record {
  member = c.in-Ok-take_seat.ensures.joined;
  limits = c.in-Ok-take_seat.ensures.limits;
  settings_are = refl;
  clock = rw (← c.first_moment.ensures) c.new-in-Ok-take_seat.ensures;
  contacts = rw c.new-in-Ok-take_seat-2.ensures refl;
  stalls = rw c.new-in-Ok-take_seat-3.ensures refl;
  comparisons = rw c.new-in-Ok-take_seat-6.ensures refl;
  disputes = refl;
  running = refl;
  waiting = c.new-in-Ok-take_seat-4.ensures;
  known_gone = refl;
  cut_off = c.new-in-Ok-take_seat-7.ensures;
  digests = c.new-in-Ok-take_seat-5.ensures;
  pace = c.in-Ok.ensures;
  frame = c.frame.ensures;
  marks = refl;
  voids = refl;
  opened = c.first_moment-in-Ok-take_seat.ensures;
  strangers = c.new-in-Ok-take_seat-8.ensures;
  follows = refl;
}

pub returns-in-Ok-take_seat-clause-begins : goal.returns-in-Ok-take_seat-clause-begins
returns-in-Ok-take_seat-clause-begins g c = record {
  first = c.in-Ok-take_seat.member.mesh;
  joined = (returns-in-Ok-take_seat-clause-opened g c).member;
  tied = c.in-Ok-take_seat.ensures.tied;
  accepted = c.in-Ok-take_seat.ensures.accepted;
  mesh = refl;
  settings_are = refl;
  marks = refl;
}
