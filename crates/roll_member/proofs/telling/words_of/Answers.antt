use Rattle.std.proofs.Common.{arith}
use Rattle.roll_member.proofs.Rooms.{told_all}
use Rattle.roll_member.proofs.telling.words_of.Goals as goal

pub returns : goal.returns
returns g c =
    told_all (g.S.Networked.seen c.args.session.now) c.args.packet.now.offers c.loop-place.place c.loop-place.words.items
    (omega (arith, c.loop-place-test.false)) c.loop-place.invariant.so_far
