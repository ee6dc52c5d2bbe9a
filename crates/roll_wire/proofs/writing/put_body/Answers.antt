use Rattle.std.proofs.Common.{◌++◌}
use Rattle.roll_wire.specs.Spelling.{byte, head, marks, runs}
use Rattle.roll_wire.proofs.Appends.{joined}
use Rattle.roll_wire.proofs.writing.put_body.Goals as goal

pub returns-in-Play-clause-items : goal.returns-in-Play-clause-items
returns-in-Play-clause-items c =
    let p = c.in-Play.play in
    rw c.in-Play.is (joined c.args.out.now.items c.put_byte-in-Play.new.out.items
    c.put_play.new.out.items (byte 1) (head p.head ++ (marks p.marks ++ runs p.words.items))
    c.put_byte-in-Play.ensures.items c.put_play.ensures.items)
