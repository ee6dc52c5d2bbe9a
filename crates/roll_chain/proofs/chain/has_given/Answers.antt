use Rattle.std.proofs.Common.{◌∙◌, sym, arith}
use Rattle.roll_mesh.specs.declared.limits.TheConstants.{PLAYER_LIMIT}
use Rattle.roll_chain.specs.Chains.{is_word_of}
use Rattle.roll_chain.proofs.Ranges.{any_below, none_until}
use Rattle.roll_chain.proofs.chain.has_given.Goals as goal

pub returns-then-is_word_of : goal.returns-then-is_word_of
returns-then-is_word_of c =
    sym (any_below (is_word_of c.args.mesh.now c.args.machine) PLAYER_LIMIT c.loop-player.player (omega arith)
    (sym c.is_word_of.ensures ∙ c.if-is_word_of.true))

pub returns : goal.returns
returns c =
    sym (none_until (is_word_of c.args.mesh.now c.args.machine) PLAYER_LIMIT c.loop-player.player (omega arith) c.loop-player.invariant)
