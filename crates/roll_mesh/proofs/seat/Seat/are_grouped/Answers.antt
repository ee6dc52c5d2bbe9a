use Rattle.std.proofs.Common.{◌∙◌, sym, arith}
use Rattle.roll_mesh.specs.Groups.{are_grouped, is_grouped_at}
use Rattle.roll_mesh.specs.declared.limits.TheConstants.{PLAYER_LIMIT}
use Rattle.roll_mesh.proofs.Places.{all_until, not_all_below}
use Rattle.roll_mesh.proofs.seat.Seat.are_grouped.Goals as goal

pub returns-then-not-is_grouped_at : goal.returns-then-not-is_grouped_at
unfolding are_grouped
returns-then-not-is_grouped_at c =
    sym (not_all_below (is_grouped_at c.args.self.now) PLAYER_LIMIT c.loop-player.player (omega arith)
    (sym c.is_grouped_at.ensures ∙ c.if-not-is_grouped_at.true))

pub returns : goal.returns
unfolding are_grouped
returns c = sym (all_until (is_grouped_at c.args.self.now) PLAYER_LIMIT c.loop-player.player
    (omega arith) c.loop-player.invariant)
