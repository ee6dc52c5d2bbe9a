use Rattle.std.proofs.Common.{◌∙◌, ap, subst}
use Rattle.roll_contact.specs.Seals.{message_by, said_by}
use Rattle.roll_contact.specs.declared.key.Key.{Key}
use Rattle.roll_wire.specs.Spelling.{content, Fits}
use Rattle.roll_viewer.specs.Lines.{said}
use Rattle.roll_viewer.proofs.line.Line.say.Goals as goal

pub returns-clause-said : goal.returns-clause-said
unfolding said
returns-clause-said c =
    c.say.ensures.said
    ∙ ap (λ (key : Key). said_by key c.args.sender (content c.args.body)) c.key_for.ensures

pub returns-clause-fits : goal.returns-clause-fits
returns-clause-fits c =
    subst (λ (key : Key). Fits (message_by key c.args.sender (content c.args.body)))
    c.key_for.ensures c.say.ensures.fits
