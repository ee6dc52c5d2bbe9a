use Rattle.std.proofs.Common.{◌≡◌, ◌≤◌, ◌*◌, ℕ, take, get_or}
use Rattle.roll_link.specs.Linked.{Linked}
use Rattle.roll_host.specs.Pumps.{IsPumped}
use Rattle.roll_host.proofs.pump.pump_links.Given as goal

abbrev pub invariant-loop-place : goal.invariant-loop-place
invariant-loop-place g l = record {
  pumped : IsPumped g.G.Game.step l.fn.session (take l.place l.fn.links) l.session (take l.place l.links) (record { applied = l.applied; refused = l.refused; refusal = l.refusal; held = l.held });
  rest : (i : ℕ) (d : Linked) → l.place ≤ i → get_or l.links i d ≡ get_or l.fn.links i d;
  most : l.applied ≤ 64 * l.place;
  few : l.refused ≤ l.applied;
}
