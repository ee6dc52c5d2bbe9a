use Rattle.std.proofs.Common.{◌≡◌, ◌≤◌, ◌*◌}
use Rattle.roll_host.specs.Absorbs.{IsAbsorbed}
use Rattle.roll_host.proofs.absorb.absorb_results.Given as goal

abbrev pub invariant-loop : goal.invariant-loop
invariant-loop g l = record {
  done : IsAbsorbed g.G.Game.step l.fn.session l.fn.owner.came l.session l.owner.came l.absorbed;
  pool : l.owner ≡ record l.fn.owner { came = l.owner.came };
  count : l.absorbed.taken ≡ l.counter;
  dropped : l.absorbed.dropped ≤ l.absorbed.taken;
  unmade : l.absorbed.unmade ≤ l.absorbed.taken;
  added : l.absorbed.added ≤ 24 * l.absorbed.taken;
}
