use Rattle.std.proofs.Common.{Some}
use Rattle.std.specs.Prelude.{◌-◌}
use Rattle.roll_peer.proofs.Marked.{spelled_set}
use Rattle.roll_peer.proofs.peer.Peer.know.Goals as goal

pub invariant_of-self : goal.invariant_of-self
invariant_of-self c = (
  c.self.invariant.0,
  c.self.invariant.1,
  c.self.invariant.2,
  rw c.from.ensures (spelled_set c.self.inside.marks (c.args.player - 1) (Some c.args.marked) c.self.invariant.3 c.requires.spelled),
)
