use Rattle.std.proofs.Common.{arith}
use Rattle.roll_branch.proofs.States.{state_at}
use Rattle.roll_branch.proofs.branch.Branch.state.Goals as goal

pub returns : goal.returns
returns g c =
    let s = c.self.inside in
    rw (← c.self.view_is) (state_at g.G.RawGame.snapshot_value g.G.Game.step (g.G.RawGame.snapshot_value s.from) s.route.rows.items s.states.items c.self.invariant c.args.count c.index.result.now (omega arith) (rw (← c.self.view_is) at c.requires) c.index.ensures)
