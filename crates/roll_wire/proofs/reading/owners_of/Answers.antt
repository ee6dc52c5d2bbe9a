use Rattle.std.proofs.Common.{refl}
use Rattle.std.proofs.lemmas.Result.{err_from_is_err_and}
use Rattle.roll_mesh.specs.declared.limits.TheConstants.{PLAYER_LIMIT}
use Rattle.roll_wire.specs.Reading.{byte_at}
use Rattle.roll_wire.proofs.Loop.{starts, goes_on, ends, is_done}
use Rattle.roll_wire.proofs.reading.owners_of.Goals as goal

pub loop-player-init : goal.loop-player-init
loop-player-init c = starts byte_at PLAYER_LIMIT _ c.args.bytes.now refl

pub loop-player-preserved : goal.loop-player-preserved
loop-player-preserved c =
    goes_on byte_at PLAYER_LIMIT c.loop-player.player c.loop-player.owners c.args.bytes.now
    c.loop-player.rest.now c.in_ok-owner.owner c.in_ok-owner.after.now
    c.loop-player-test.true c.in_ok-owner.ensures c.loop-player.invariant

pub returns-in_err-owner : goal.returns-in_err-owner
returns-in_err-owner c =
    let p = err_from_is_err_and c.from_residual.result c.from_residual.ensures.1 in
    rw (p.1, p.2)
    (ends byte_at PLAYER_LIMIT c.loop-player.player c.loop-player.owners c.args.bytes.now
    c.loop-player.rest.now c.in_err-owner.field-0.0 c.loop-player-test.true
    c.in_err-owner.ensures c.loop-player.invariant)

pub returns : goal.returns
returns c = is_done byte_at PLAYER_LIMIT c.loop-player.player c.loop-player.owners
    c.args.bytes.now c.loop-player.rest.now c.loop-player-test.false c.loop-player.invariant
