use Rattle.std.proofs.Common.{◌++◌}
use Rattle.std.specs.List.{flat_map}
use Rattle.roll_wire.specs.Spelling.{byte, number}
use Rattle.roll_wire.proofs.Appends.{joined}
use Rattle.roll_state.specs.Spelling.{name}
use Rattle.roll_state.proofs.writing.put_body.Goals as goal

pub returns-in-Piece-clause-items : goal.returns-in-Piece-clause-items
returns-in-Piece-clause-items c =
    let p = c.in-Piece.piece in
    rw c.in-Piece.is (joined c.args.out.now.items c.push.new.self.items c.put_piece.new.out.items
    (byte 5) (name p.state ++ (number p.place ++ p.bytes.items)) c.push.ensures.items
    c.put_piece.ensures.items)

pub returns-in-Ask-clause-items : goal.returns-in-Ask-clause-items
returns-in-Ask-clause-items c =
    let a = c.in-Ask.ask in
    rw c.in-Ask.is (joined c.args.out.now.items c.push-in-Ask.new.self.items c.put_ask.new.out.items
    (byte 6) (name a.state ++ flat_map number a.places.items) c.push-in-Ask.ensures.items
    c.put_ask.ensures.items)
