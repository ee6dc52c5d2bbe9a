use Rattle.std.proofs.Common.{◌≡◌, ◌∙◌, arith, ap, length, rules, sym}
use Rattle.roll_mesh.specs.declared.packet.Packet.{Packet}
use Rattle.roll_wire.specs.Spelling.{count_of}
use Rattle.roll_member.specs.Telling.{queued}
use Rattle.roll_member.proofs.Rooms.{wanted_few}
use Rattle.roll_member.proofs.telling.queued.Goals as goal

pub overflow_cast-result : goal.overflow_cast-result
overflow_cast-result c =
    let long : length c.wanted.result.offers ≡ 8 = search rules in
    let few = wanted_few c.args.mesh.now c.args.machine
    (sym (ap (λ (p : Packet). length p.offers) c.wanted.ensures) ∙ long) in
    let same : c.count_of.result ≡ queued c.args.mesh.now c.args.machine =
    c.count_of.ensures ∙ ap (λ (p : Packet). count_of p.offers) c.wanted.ensures in
    omega (arith, same, few)
