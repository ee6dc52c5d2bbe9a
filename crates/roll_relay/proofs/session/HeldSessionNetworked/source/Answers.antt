use Rattle.std.proofs.Common.{◌∙◌}
use Rattle.roll_relay.proofs.Seeing.{source_past}
use Rattle.roll_relay.proofs.session.HeldSessionNetworked.source.Goals as goal

pub returns-else-branch : goal.returns-else-branch
returns-else-branch g c =
    let s = g.S.Networked.seen c.args.self.now.session.now in
    let words = c.args.self.now.held.now.words.items in
    c.source.ensures
    ∙ source_past s words c.args.player c.in_ok-confirmed.field-0 c.args.frame c.in_ok-confirmed.ensures c.if-branch.false
