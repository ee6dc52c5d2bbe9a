use Rattle.std.proofs.Common.{None}
use Rattle.std.proofs.lemmas.Result.{err_from_is_err_and}
use Rattle.roll_mesh.specs.declared.limits.TheConstants.{PLAYER_LIMIT}
use Rattle.roll_wire.specs.Reading.{marked_at, masked_at, within_at}
use Rattle.roll_wire.proofs.Loop.{places_go_on, places_end, places_done}
use Rattle.roll_wire.proofs.reading.marks_of.Goals as goal

pub loop-player-preserved : goal.loop-player-preserved
loop-player-preserved c =
    places_go_on None (within_at marked_at) PLAYER_LIMIT c.in_ok-places.places c.loop-player.player
    c.loop-player.marks c.in_ok-places.rest.now c.loop-player.rest.now c.in_ok-marked.marked
    c.in_ok-marked.after.now c.loop-player-test.true c.in_ok-marked.ensures c.loop-player.invariant

pub returns-in_err-marked : goal.returns-in_err-marked
unfolding masked_at
returns-in_err-marked c =
    let p = err_from_is_err_and c.from_residual-in_err-marked.result
    c.from_residual-in_err-marked.ensures.1 in
    rw (p.1, p.2, c.in_ok-places.ensures)
    (places_end None (within_at marked_at) PLAYER_LIMIT c.in_ok-places.places c.loop-player.player
    c.loop-player.marks c.in_ok-places.rest.now c.loop-player.rest.now c.in_err-marked.field-0.0
    c.loop-player-test.true c.in_err-marked.ensures c.loop-player.invariant)

pub returns : goal.returns
unfolding masked_at
returns c =
    rw c.in_ok-places.ensures
    (places_done None (within_at marked_at) PLAYER_LIMIT c.in_ok-places.places c.loop-player.player
    c.loop-player.marks c.in_ok-places.rest.now c.loop-player.rest.now c.loop-player-test.false
    c.loop-player.invariant)
