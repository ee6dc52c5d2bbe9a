use Rattle.std.proofs.Common.{◌++◌}
use Rattle.roll_wire.specs.Spelling.{long, number}
use Rattle.roll_wire.proofs.Appends.{joined}
use Rattle.roll_state.proofs.writing.put_name.Goals as goal

pub returns-clause-items : goal.returns-clause-items
returns-clause-items c =
    let s = c.args.s.now in
    let all = c.put.new.out.items in
    let third = joined c.put_u32.new.out.items c.put_u32-2.new.out.items all (number s.length) s.digest
    c.put_u32-2.ensures.items c.put.ensures.items in
    let second = joined c.put_u64.new.out.items c.put_u32.new.out.items all (number s.frame)
    (number s.length ++ s.digest) c.put_u32.ensures.items third in
    joined c.args.out.now.items c.put_u64.new.out.items all (long s.which)
    (number s.frame ++ (number s.length ++ s.digest)) c.put_u64.ensures.items second
