use Rattle.std.proofs.Common.{◌∙◌, sym, arith}
use Rattle.roll_member.specs.Joined.{are_fresh, is_fresh_at}
use Rattle.roll_mesh.proofs.Places.{all_until, not_all_below}
use Rattle.roll_mesh.specs.declared.limits.TheConstants.{PLAYER_LIMIT}
use Rattle.roll_member.proofs.join.are_fresh.Goals as goal

pub returns-then-not-is_fresh_at : goal.returns-then-not-is_fresh_at
unfolding are_fresh
returns-then-not-is_fresh_at g c =
    sym (not_all_below (is_fresh_at (g.S.Networked.seen c.args.session.now)) PLAYER_LIMIT c.loop-place.place
    (omega arith) (sym c.is_fresh_at.ensures ∙ c.if-not-is_fresh_at.true))

pub returns : goal.returns
unfolding are_fresh
returns g c = sym (all_until (is_fresh_at (g.S.Networked.seen c.args.session.now)) PLAYER_LIMIT c.loop-place.place
    (omega arith) c.loop-place.invariant)
