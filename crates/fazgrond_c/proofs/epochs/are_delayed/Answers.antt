use Rattle.std.proofs.Common.{◌∙◌, sym, arith}
use Rattle.roll_chain.proofs.Ranges.{each_next}
use Rattle.roll_mesh.proofs.Places.{all_until, not_all_below}
use Rattle.roll_mesh.specs.declared.limits.TheConstants.{PLAYER_LIMIT}
use Rattle.fazgrond_c.specs.Lasting.{is_delayed}
use Rattle.fazgrond_c.proofs.epochs.are_delayed.Goals as goal

pub loop-player-preserved : goal.loop-player-preserved
loop-player-preserved c =
    each_next (is_delayed c.args.terms.now c.args.settings.now c.args.me) c.loop-player.player c.loop-player.invariant
    (sym c.is_delayed.ensures ∙ c.if-not-is_delayed.false)

pub returns-then-not-is_delayed : goal.returns-then-not-is_delayed
returns-then-not-is_delayed c =
    sym (not_all_below (is_delayed c.args.terms.now c.args.settings.now c.args.me) PLAYER_LIMIT c.loop-player.player (omega arith)
    (sym c.is_delayed.ensures ∙ c.if-not-is_delayed.true))

pub returns : goal.returns
returns c =
    sym (all_until (is_delayed c.args.terms.now c.args.settings.now c.args.me) PLAYER_LIMIT c.loop-player.player (omega arith) c.loop-player.invariant)
