use Rattle.std.proofs.Common.{◌∙◌, sym, arith}
use Rattle.roll_member.specs.Joined.{are_seated, is_seated_at}
use Rattle.roll_mesh.proofs.Places.{all_until, not_all_below}
use Rattle.roll_mesh.specs.declared.limits.TheConstants.{PLAYER_LIMIT}
use Rattle.roll_member.proofs.join.are_seated.Goals as goal

pub returns-then-not-is_seated_at : goal.returns-then-not-is_seated_at
unfolding are_seated
returns-then-not-is_seated_at g c =
    sym (not_all_below (is_seated_at (g.S.Networked.seen c.args.session.now) c.args.seat.now) PLAYER_LIMIT
    c.loop-place.place (omega arith) (sym c.is_seated_at.ensures ∙ c.if-not-is_seated_at.true))

pub returns : goal.returns
unfolding are_seated
returns g c = sym (all_until (is_seated_at (g.S.Networked.seen c.args.session.now) c.args.seat.now) PLAYER_LIMIT
    c.loop-place.place (omega arith) c.loop-place.invariant)
