use Rattle.std.proofs.Common.{◌∙◌, sym, arith}
use Rattle.roll_mesh.specs.declared.limits.TheConstants.{PLAYER_LIMIT}
use Rattle.roll_mesh.proofs.Places.{all_until, not_all_below}
use Rattle.roll_member.specs.Taking.{are_full, is_full}
use Rattle.roll_member.proofs.words.are_full.Goals as goal

pub returns-then-not-is_full : goal.returns-then-not-is_full
unfolding are_full
returns-then-not-is_full c =
    sym (not_all_below (is_full c.args.mesh.now.seat c.args.mesh.now.machine c.args.end c.args.most.now) PLAYER_LIMIT
    c.loop-place.place (omega arith) (sym c.is_full.ensures ∙ c.if-not-is_full.true))

pub returns : goal.returns
unfolding are_full
returns c =
    sym (all_until (is_full c.args.mesh.now.seat c.args.mesh.now.machine c.args.end c.args.most.now) PLAYER_LIMIT
    c.loop-place.place (omega arith) c.loop-place.invariant)
