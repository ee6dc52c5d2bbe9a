use Rattle.std.proofs.Common.{◌∙◌, ◌++◌, sym, ap}
use Rattle.prog_scripts.proofs.Claimed.{claimed, no_roll_made, unclaimed}
use Rattle.prog_scripts.proofs.output.push_claim.Goals as goal

pub returns-in_ok-extend_from_slice-in-Ok-clause-written : goal.returns-in_ok-extend_from_slice-in-Ok-clause-written
returns-in_ok-extend_from_slice-in-Ok-clause-written g c =
    c.in_ok-extend_from_slice-in-Ok.ensures.items
    ∙ ap (λ t. c.args.out.now.items ++ t)
    (c.deref.ensures.value ∙ c.in_ok-text-in-Ok.ensures
    ∙ claimed c.args.session.now.settings c.args.session.now.core c.in-Ok.claim c.in-Ok.ensures.claim c.in-Ok.ensures.made)

pub returns-in_ok-push_reply-in-Err-NoPlan-clause-written : goal.returns-in_ok-push_reply-in-Err-NoPlan-clause-written
returns-in_ok-push_reply-in-Err-NoPlan-clause-written g c =
    let none = no_roll_made c.args.session.now.core.last (sym c.in-Err-NoPlan.field-0-is ∙ c.in-Err-NoPlan.ensures.refused) in
    c.in_ok-push_reply-in-Err-NoPlan.ensures.written ∙ ap (λ t. c.args.out.now.items ++ t) (unclaimed c.args.session.now.settings c.args.session.now.core none)
