use Rattle.std.proofs.Common.{◌≡◌, Some, subst}
use Rattle.roll_contact.specs.Seals.{HasNumber, unsealed}
use Rattle.roll_contact.specs.declared.key.Key.{Key}
use Rattle.roll_contact.proofs.seal.seal.Goals as goal

pub returns-clause-again : goal.returns-clause-again
returns-clause-again c =
    let text = c.args.datagram.now.items in
    subst (λ (key : Key). HasNumber key.number text → unsealed key c.seal.new.datagram.items ≡ Some text) c.new.ensures c.seal.ensures.again
