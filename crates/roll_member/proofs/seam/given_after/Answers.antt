use Rattle.std.proofs.Common.{◌+◌, arith}
use Rattle.std.proofs.lemmas.List.FromFn.{fill_by_all}
use Rattle.roll_frame.specs.declared.limits.TheConstants.{DELAY_LIMIT}
use Rattle.roll_member.specs.Seam.{given_at}
use Rattle.roll_member.proofs.seam.given_after.Goals as goal

pub returns : goal.returns
returns g c =
    fill_by_all (λ k. given_at (g.S.Networked.seen c.args.session.now) c.args.place (c.args.end + k)) c.loop-frame.given DELAY_LIMIT 0
    c.loop-frame.invariant.0 (λ k l. c.loop-frame.invariant.1 k (omega (arith, l)))
