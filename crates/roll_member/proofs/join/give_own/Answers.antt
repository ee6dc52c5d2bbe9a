use Rattle.std.proofs.Common.{◌<◌, ◌∙◌, ℕ, List, ap, arith, length, sym}
use Rattle.roll_member.proofs.Joining.{given_more, if_done}
use Rattle.roll_member.proofs.join.give_own.Goals as goal

pub loop-preserved : goal.loop-preserved
loop-preserved g c =
    let inside : c.args.place < length c.args.mesh.now.machine.has =
    omega (arith, c.requires.place, ap (λ (has : List ℕ). length has) c.has.ensures) in
    given_more c.args.mesh.now c.loop.mesh c.give.new.self c.args.place c.loop.counter inside
    c.requires.own c.loop.invariant
    (if_done c.give.result (sym c.is_err.ensures.value ∙ c.if-is_err.false) c.give.ensures.given)
