use Rattle.std.specs.List.{flat_map}
use Rattle.roll_wire.specs.Spelling.{number}
use Rattle.roll_wire.proofs.Appends.{joined}
use Rattle.roll_state.specs.Spelling.{name}
use Rattle.roll_state.proofs.writing.put_ask.Goals as goal

pub returns-clause-items : goal.returns-clause-items
returns-clause-items c =
    let ask = c.args.ask.now in
    rw c.as_slice.ensures.value at
    (joined c.args.out.now.items c.put_name.new.out.items c.put_places.new.out.items
    (name ask.state) (flat_map number c.as_slice.result.now) c.put_name.ensures.items
    c.put_places.ensures.items)
