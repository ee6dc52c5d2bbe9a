use Rattle.std.proofs.Common.{◌∙◌, sym, arith}
use Rattle.roll_mesh.proofs.Places.{all_until, not_all_below}
use Rattle.roll_mesh.specs.declared.limits.TheConstants.{PLAYER_LIMIT}
use Rattle.roll_epoch.specs.Inputs.{are_even, is_even_at}
use Rattle.roll_epoch.proofs.terms.Terms.are_even.Goals as goal

pub returns-then-not-is_even_at : goal.returns-then-not-is_even_at
unfolding are_even
returns-then-not-is_even_at c =
    sym (not_all_below (is_even_at c.args.self.now) PLAYER_LIMIT c.loop-player.player (omega arith)
    (sym c.is_even_at.ensures ∙ c.if-not-is_even_at.true))

pub returns : goal.returns
unfolding are_even
returns c =
    sym (all_until (is_even_at c.args.self.now) PLAYER_LIMIT c.loop-player.player (omega arith) c.loop-player.invariant)
