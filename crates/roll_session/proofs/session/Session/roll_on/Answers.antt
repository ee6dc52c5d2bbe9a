use Rattle.roll_session.proofs.WithGame.{has_partly, has_rolled}
use Rattle.roll_session.proofs.session.Session.roll_on.Goals as goal

pub invariant_of-self : goal.invariant_of-self
invariant_of-self g c =
    let q = rw (← c.self.view_is) at c.requires in
    let l = c.laws.ensures in
    let e = c.in-Ok.ensures in
    has_rolled c.self.inside.core c.self.invariant l.log l.inputs l.kept c.roll_by.new.core c.args.call c.args.to _ c.in-Ok.field-0.state q.to q.allowed e.entered e.values e.state

pub invariant_of-self-in-Err : goal.invariant_of-self-in-Err
invariant_of-self-in-Err g c =
    let q = rw (← c.self.view_is) at c.requires in
    let l = c.laws.ensures in
    let e = c.in-Err.ensures in
    has_partly c.self.inside.core c.self.invariant l.log l.inputs l.kept c.roll_by.new.core c.args.call c.args.to c.in-Err.field-0 _ q.to q.allowed e.made e.cut e.values
