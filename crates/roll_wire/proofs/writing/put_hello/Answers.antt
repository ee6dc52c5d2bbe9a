use Rattle.std.proofs.Common.{◌++◌}
use Rattle.std.specs.List.{flat_map}
use Rattle.roll_wire.specs.Spelling.{byte, long, number}
use Rattle.roll_wire.proofs.Appends.{joined}
use Rattle.roll_wire.proofs.writing.put_hello.Goals as goal

pub returns-clause-items : goal.returns-clause-items
returns-clause-items c =
    let h = c.args.h.now in
    let all = c.put_byte-3.new.out.items in
    let last = joined c.put_u64-4.new.out.items c.put_u32.new.out.items all (number h.patience)
    (byte h.abilities) c.put_u32.ensures.items c.put_byte-3.ensures.items in
    let sixth = joined c.put_u64-3.new.out.items c.put_u64-4.new.out.items all (long h.echo)
    (number h.patience ++ byte h.abilities) c.put_u64-4.ensures.items last in
    let fifth = joined c.put_u64-2.new.out.items c.put_u64-3.new.out.items all (long h.draw)
    (long h.echo ++ (number h.patience ++ byte h.abilities)) c.put_u64-3.ensures.items sixth in
    let fourth = joined c.put_u64.new.out.items c.put_u64-2.new.out.items all (long h.opening)
    (long h.draw ++ (long h.echo ++ (number h.patience ++ byte h.abilities))) c.put_u64-2.ensures.items
    fifth in
    let third = joined c.put_owners.new.out.items c.put_u64.new.out.items all (long h.settings)
    (long h.opening ++ (long h.draw ++ (long h.echo ++ (number h.patience ++ byte h.abilities))))
    c.put_u64.ensures.items fourth in
    let second = joined c.put_byte-2.new.out.items c.put_owners.new.out.items all
    (flat_map byte h.owners) (long h.settings ++ (long h.opening ++ (long h.draw ++
    (long h.echo ++ (number h.patience ++ byte h.abilities))))) c.put_owners.ensures.items third in
    let first = joined c.put_byte.new.out.items c.put_byte-2.new.out.items all (byte h.words)
    (flat_map byte h.owners ++ (long h.settings ++ (long h.opening ++ (long h.draw ++
    (long h.echo ++ (number h.patience ++ byte h.abilities)))))) c.put_byte-2.ensures.items second in
    joined c.args.out.now.items c.put_byte.new.out.items all (byte h.machines)
    (byte h.words ++ (flat_map byte h.owners ++ (long h.settings ++ (long h.opening ++ (long h.draw ++
    (long h.echo ++ (number h.patience ++ byte h.abilities))))))) c.put_byte.ensures.items first
