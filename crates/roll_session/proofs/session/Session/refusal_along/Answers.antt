use Rattle.std.proofs.Common.{◌∙◌, List, ap, arith, length, sym}
use Rattle.roll_frame.specs.declared.entry.Entry.{Entry}
use Rattle.roll_frame.specs.declared.settings.Settings.{Settings}
use Rattle.roll_session.proofs.Judging.{refused_first, refused_full, refused_none}
use Rattle.roll_session.proofs.WithGame.{graft_refused_there}
use Rattle.roll_session.proofs.session.Session.refusal_along.Goals as goal

pub returns-then-is_some : goal.returns-then-is_some
returns-then-is_some g c =
    let l = c.laws.ensures in
    let told = graft_refused_there c.self.inside.core c.self.invariant l.log l.inputs l.kept c.saves.result.now c.saves.ensures c.args.branch.now c.from-most.result c.branch_refusal-refusal.result (rw c.settings-settings.ensures at (c.from-most.ensures ∙ c.branch_limit.ensures)) c.branch_refusal-refusal.ensures in
    rw (← c.self.view_is) (refused_first _ _ _ told (sym c.is_some.ensures ∙ c.if-is_some.true))

pub returns-then-len-settings : goal.returns-then-len-settings
returns-then-len-settings g c =
    let l = c.laws.ensures in
    let told = graft_refused_there c.self.inside.core c.self.invariant l.log l.inputs l.kept c.saves.result.now c.saves.ensures c.args.branch.now c.from-most.result c.branch_refusal-refusal.result (rw c.settings-settings.ensures at (c.from-most.ensures ∙ c.branch_limit.ensures)) c.branch_refusal-refusal.ensures in
    rw (← c.self.view_is) (refused_full _ _ _ _ told (sym c.is_some.ensures ∙ c.if-is_some.false) (omega (arith, c.len.ensures, ap (λ (es : List Entry). length es) c.log.ensures, ap (λ (t : Settings). t.log) c.settings-settings.ensures)))

pub returns-else-len-settings : goal.returns-else-len-settings
returns-else-len-settings g c =
    let l = c.laws.ensures in
    let told = graft_refused_there c.self.inside.core c.self.invariant l.log l.inputs l.kept c.saves.result.now c.saves.ensures c.args.branch.now c.from-most.result c.branch_refusal-refusal.result (rw c.settings-settings.ensures at (c.from-most.ensures ∙ c.branch_limit.ensures)) c.branch_refusal-refusal.ensures in
    rw (← c.self.view_is) (refused_none _ _ _ _ told (sym c.is_some.ensures ∙ c.if-is_some.false) (omega (arith, c.len.ensures, ap (λ (es : List Entry). length es) c.log.ensures, ap (λ (t : Settings). t.log) c.settings-settings.ensures)))
