use Rattle.std.proofs.Common.{◌≡◌, ◌-◌, true}
use Rattle.roll_frame.specs.Core.{settled}
use Rattle.roll_game.specs.Counts.{counted}
use Rattle.roll_game.specs.declared.counts.Call.TheVariants.{Load}
use Rattle.roll_chain.specs.States.{advanced, value_at}
use Rattle.roll_peer.specs.Known.{IsKnownTo}
use Rattle.roll_chain.proofs.state.state_at.Given as goal

abbrev pub invariant-loop-next : goal.invariant-loop-next
invariant-loop-next g l = record {
  state : g.G.RawGame.state_value l.state ≡ value_at g.G.Game.step l.session l.next;
  known : IsKnownTo l.session l.next;
  counts : g.G.RawGame.call_counts l.game ≡ advanced (l.next - settled l.session.core) (counted Load true (g.G.RawGame.call_counts l.fn.game));
}
