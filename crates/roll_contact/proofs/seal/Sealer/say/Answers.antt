use Rattle.std.proofs.Common.{◌∙◌, ap}
use Rattle.roll_wire.specs.Spelling.{spelling, content}
use Rattle.roll_contact.specs.Seals.{message_by, said_by, sealed}
use Rattle.roll_contact.specs.declared.key.Key.{Key}
use Rattle.roll_contact.proofs.seal.Sealer.say.Goals as goal

pub returns-clause-said : goal.returns-clause-said
unfolding said_by
returns-clause-said c =
    c.seal.ensures.sealed ∙ ap (sealed c.args.self.now)
    (c.in-Some.ensures.spelled.1
    ∙ ap (λ (key : Key). spelling (message_by key c.args.sender (content c.args.body))) c.self.view_is)
