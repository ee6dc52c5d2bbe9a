use Rattle.std.proofs.Common.{ap, arith, false, sym, ◌+◌, ◌∙◌}
use Rattle.std.specs.Option.{option_map}
use Rattle.roll_mesh.specs.declared.limits.TheConstants.{PLAYER_LIMIT}
use Rattle.roll_wire.specs.Spelling.{turn}
use Rattle.roll_peer.specs.Disputes.{are_two}
use Rattle.roll_peer.proofs.Counts.{all_next, first_passes, none_passes}
use Rattle.roll_peer.proofs.peer.Peer.first_two.Goals as goal

pub returns-then-are_two : goal.returns-then-are_two
returns-then-are_two c =
    sym (ap (λ o. option_map (λ p. p + 1) o) (first_passes (are_two c.args.self.now (turn c.args.play.now)) PLAYER_LIMIT c.loop-player.player
    (omega (arith, c.loop-player-test.true)) (sym c.are_two.ensures ∙ c.if-are_two.true) c.loop-player.invariant))

pub returns : goal.returns
returns c =
    sym (ap (λ o. option_map (λ p. p + 1) o) (none_passes (are_two c.args.self.now (turn c.args.play.now)) PLAYER_LIMIT
    (λ m l. c.loop-player.invariant m (omega (arith, l, c.loop-player-test.false)))))

pub loop-player-preserved : goal.loop-player-preserved
loop-player-preserved c =
    all_next (are_two c.args.self.now (turn c.args.play.now)) c.loop-player.player false c.loop-player.invariant
    (sym c.are_two.ensures ∙ c.if-are_two.false)
