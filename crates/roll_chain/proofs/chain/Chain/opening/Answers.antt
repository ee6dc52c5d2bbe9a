use Rattle.std.proofs.Common.{arith}
use Rattle.roll_chain.proofs.Frames.{frame_small}
use Rattle.roll_chain.proofs.chain.Chain.opening.Goals as goal

pub opening_after-requires : goal.opening_after-requires
opening_after-requires g c =
    omega (
      arith,
      c.in_ok-ending.ensures.over.there,
      frame_small g.S.Networked.step (g.S.Networked.seen c.args.session.now) c.laws.ensures,
    )
