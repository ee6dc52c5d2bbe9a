use Rattle.std.proofs.Common.{◌≡◌, ◌∙◌, ℕ, sym, arith, true, below_more}
use Rattle.roll_member.specs.Beside.{is_near, is_near_at}
use Rattle.roll_mesh.proofs.Places.{all_until, not_all_below}
use Rattle.roll_mesh.specs.declared.limits.TheConstants.{PLAYER_LIMIT}
use Rattle.roll_member.proofs.join.is_near.Goals as goal

pub returns-then-not-is_near_at : goal.returns-then-not-is_near_at
unfolding is_near
returns-then-not-is_near_at g c =
    sym (not_all_below (is_near_at (g.S.Networked.seen c.args.session.now) c.args.mesh.now) PLAYER_LIMIT
    c.loop-place.place (omega arith) (sym c.is_near_at.ensures ∙ c.if-not-is_near_at.true))

pub returns : goal.returns
unfolding is_near
returns g c = sym (all_until (is_near_at (g.S.Networked.seen c.args.session.now) c.args.mesh.now) PLAYER_LIMIT
    c.loop-place.place (omega arith) c.loop-place.invariant)

pub loop-place-preserved : goal.loop-place-preserved
loop-place-preserved g c =
    below_more (λ (p : ℕ). is_near_at (g.S.Networked.seen c.args.session.now) c.args.mesh.now p ≡ true) c.loop-place.place
    c.loop-place.invariant (sym c.is_near_at.ensures ∙ c.if-not-is_near_at.false)
