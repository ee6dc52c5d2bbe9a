use Rattle.std.proofs.lemmas.Result.{err_from_is_err_and}
use Rattle.std.specs.Int.{w32}
use Rattle.roll_wire.specs.Reading.{number_at}
use Rattle.roll_wire.proofs.Lists.{ends, goes_on, is_done}
use Rattle.roll_state.proofs.reading.places_of.Goals as goal

pub loop-preserved : goal.loop-preserved
loop-preserved c =
    rw c.push.ensures.items
    (goes_on (number_at w32) c.args.count c.loop.counter c.loop.places.items c.args.bytes.now
    c.loop.rest.now c.in_ok-place.place c.in_ok-place.after.now c.loop-test.true
    c.in_ok-place.ensures c.loop.invariant)

pub returns-in_err-place : goal.returns-in_err-place
returns-in_err-place c =
    let p = err_from_is_err_and c.from_residual.result c.from_residual.ensures.1 in
    rw (p.1, p.2)
    (ends (number_at w32) c.args.count c.loop.counter c.loop.places.items c.args.bytes.now
    c.loop.rest.now c.in_err-place.field-0.0 c.loop-test.true c.in_err-place.ensures
    c.loop.invariant)

pub returns : goal.returns
returns c =
    is_done (number_at w32) c.args.count c.loop.counter c.loop.places.items c.args.bytes.now
    c.loop.rest.now c.loop-test.false c.loop.invariant
