use Rattle.std.proofs.Common.{◌∙◌, ap}
use Rattle.roll_contact.specs.Seals.{sealed}
use Rattle.roll_state.specs.Sealing.{said_by}
use Rattle.roll_state.proofs.sealing.say.Goals as goal

pub returns-clause-said : goal.returns-clause-said
unfolding said_by
returns-clause-said c = c.seal.ensures.sealed ∙ ap (sealed c.args.key.now) c.encode-bytes.ensures.spelled
