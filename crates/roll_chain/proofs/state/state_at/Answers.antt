use Rattle.std.proofs.Common.{◌≡◌, suc, ◌+◌, ◌-◌, ◌∙◌, sym, subst, refl, arith}
use Rattle.roll_frame.specs.Core.{settled}
use Rattle.roll_peer.specs.Known.{IsKnownTo}
use Rattle.roll_peer.proofs.Known.{settled_known}
use Rattle.roll_chain.proofs.Runs.{known_more, row_given, value_more}
use Rattle.roll_chain.proofs.state.state_at.Goals as goal

pub loop-next-init : goal.loop-next-init
loop-next-init g c =
    let s = c.args.session.now in
    let settled_is = c.settled-settled.ensures in
    let none : c.settled-settled.result - settled s.core ≡ 0 = omega (arith, settled_is) in
    record {
      state = rw (settled_is) (c.in_ok-state.ensures.value ∙ c.settled_state.ensures);
      known = subst (IsKnownTo s) (sym settled_is) (settled_known g.G.Game.step s c.laws.ensures.log);
      counts = rw none c.in_ok-state.ensures.counts;
    }

pub loop-next-preserved : goal.loop-next-preserved
loop-next-preserved g c =
    let s = c.args.session.now in
    let now = c.loop-next.invariant in
    let given = row_given s.core.players c.loop-next.next c.in-Some.row (sym c.in-Some.ensures) in
    let stepped = (g.met.G.Game.is_step _ _ _).0 c.in_ok-advance.ensures.ran in
    let one : c.loop-next.next + 1 - settled s.core ≡ suc (c.loop-next.next - settled s.core) = omega (arith, c.settled-settled.ensures, c.loop-next.auto.next) in
    record {
      state = stepped ∙ rw (now.state, given.1) (sym (value_more g.G.Game.step s c.loop-next.next));
      known = known_more s c.loop-next.next now.known given.0;
      counts = rw (one, c.in_ok-advance.ensures.counts, now.counts) refl;
    }
