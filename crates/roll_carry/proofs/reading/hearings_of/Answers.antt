use Rattle.std.proofs.lemmas.Result.{err_from_is_err_and}
use Rattle.roll_carry.specs.Reading.{hearing_at}
use Rattle.roll_wire.proofs.Lists.{ends, goes_on, is_done}
use Rattle.roll_carry.proofs.reading.hearings_of.Goals as goal

pub loop-preserved : goal.loop-preserved
loop-preserved c =
    rw c.push.ensures.items
    (goes_on hearing_at c.args.count c.loop.counter c.loop.map.items c.args.bytes.now
    c.loop.rest.now c.in_ok-hearing.hearing c.in_ok-hearing.after.now c.loop-test.true
    c.in_ok-hearing.ensures c.loop.invariant)

pub returns-in_err-hearing : goal.returns-in_err-hearing
returns-in_err-hearing c =
    let p = err_from_is_err_and c.from_residual.result c.from_residual.ensures.1 in
    rw (p.1, p.2)
    (ends hearing_at c.args.count c.loop.counter c.loop.map.items c.args.bytes.now
    c.loop.rest.now c.in_err-hearing.field-0.0 c.loop-test.true c.in_err-hearing.ensures
    c.loop.invariant)

pub returns : goal.returns
returns c =
    is_done hearing_at c.args.count c.loop.counter c.loop.map.items c.args.bytes.now
    c.loop.rest.now c.loop-test.false c.loop.invariant
