use Rattle.std.proofs.Common.{arith}
use Rattle.roll_member.proofs.Partings.{partly_more}
use Rattle.roll_member.proofs.leaving.disconnect_all.Goals as goal

pub loop-place-preserved : goal.loop-place-preserved
loop-place-preserved g c = record {
  partly = partly_more (g.S.Networked.seen c.args.session.now) (g.S.Networked.seen c.loop-place.session)
      (g.S.Networked.seen c.disconnect-parted.new.session)
      c.args.mesh.now.machine c.loop-place.place c.loop-place.players c.loop-place.refusal
      c.or-refusal.result c.disconnect-parted.result (omega (arith, c.loop-place-test.true))
      c.loop-place.invariant.partly c.disconnect-parted.ensures.parted c.or-refusal.ensures;
  keeps = g.S.Networked.keeps_on c.args.session.now c.loop-place.session c.disconnect-parted.new.session
      c.loop-place.invariant.keeps c.disconnect-parted.ensures.keeps;
}
