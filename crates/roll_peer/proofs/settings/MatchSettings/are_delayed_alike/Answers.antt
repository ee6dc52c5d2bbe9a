use Rattle.std.proofs.Common.{◌∙◌, sym, arith}
use Rattle.roll_mesh.proofs.Places.{all_until, not_all_below}
use Rattle.roll_mesh.specs.declared.limits.TheConstants.{PLAYER_LIMIT}
use Rattle.roll_peer.specs.Settings.{are_delayed_alike, is_delayed_alike}
use Rattle.roll_peer.proofs.settings.MatchSettings.are_delayed_alike.Goals as goal

pub returns-then-not-is_delayed_alike : goal.returns-then-not-is_delayed_alike
unfolding are_delayed_alike
returns-then-not-is_delayed_alike c =
    sym (not_all_below (is_delayed_alike c.args.session.now c.args.self.now) PLAYER_LIMIT c.loop-player.player (omega (arith, c.loop-player-test.true))
    (sym c.is_delayed_alike.ensures ∙ c.if-not-is_delayed_alike.true))

pub returns : goal.returns
unfolding are_delayed_alike
returns c =
    sym (all_until (is_delayed_alike c.args.session.now c.args.self.now) PLAYER_LIMIT c.loop-player.player (omega (arith, c.loop-player-test.false)) c.loop-player.invariant)
