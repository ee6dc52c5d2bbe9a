use Rattle.std.proofs.Common.{◌≡◌, ◌≤◌, ◌<◌, None}
use Rattle.roll_host.proofs.Taking.{Going}
use Rattle.roll_host.proofs.pump.pump_link.Given as goal

abbrev pub invariant-loop : goal.invariant-loop
invariant-loop g l = record {
  going : Going g.G.Game.step l.fn.session l.fn.link l.session l.link l.applied l.refused l.refusal;
  count : l.applied ≡ l.counter;
  few : l.refused ≤ l.applied;
  free : 0 < l.counter → l.link.held ≡ None;
}
