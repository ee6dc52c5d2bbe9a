use Rattle.roll_member.proofs.Tied.{leave_steady}
use Rattle.roll_member.proofs.member.Member.leave.Goals as goal

pub invariant_of-self : goal.invariant_of-self
invariant_of-self c =
    leave_steady c.self.inside.mesh c.leave.new.self c.args.machine c.leave.result
    c.leave.ensures.left c.leave.ensures.unchanged c.self.invariant
