use Rattle.std.proofs.Common.{◌∙◌, sym, inl, refl}
use Rattle.roll_viewer.proofs.Handing.{handed, handed_more, none_there}
use Rattle.roll_viewer.proofs.queue.RowQueue.hand_to.Goals as goal

pub loop-row-preserved : goal.loop-row-preserved
loop-row-preserved c =
    handed_more c.args.self.now c.loop-row.self c.args.sender.now c.loop-row.sender c.loop-row.count c.loop-row.invariant
    c.in-Some.row c.pop.new.self c.send.new.self (sym c.first.ensures ∙ c.in-Some.is)
    (c.if-not-send.ensures.sent refl) c.pop.ensures.rest

pub returns-in_default : goal.returns-in_default
returns-in_default c =
    handed c.args.self.now c.loop-row.self c.args.sender.now c.loop-row.sender c.loop-row.count c.loop-row.invariant
    (inl (none_there c.loop-row.self.waiting (sym c.first.ensures ∙ c.in_default.is)))
