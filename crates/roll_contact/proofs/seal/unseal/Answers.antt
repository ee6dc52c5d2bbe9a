use Rattle.std.proofs.Common.{◌≡◌, ◌∙◌, IfSome, ap, subst}
use Rattle.roll_contact.specs.Seals.{IsSealed, named, unsealed}
use Rattle.roll_contact.specs.declared.key.Key.{Key}
use Rattle.roll_contact.proofs.seal.unseal.Goals as goal

pub returns-clause-found : goal.returns-clause-found
returns-clause-found c =
    let bytes = c.args.bytes.now in
    subst (λ (key : Key). IfSome c.unseal.result (λ datagram. IsSealed key bytes × (datagram.items ≡ named key.number bytes))) c.new.ensures c.unseal.ensures.found

pub returns-clause-exact : goal.returns-clause-exact
returns-clause-exact c = c.unseal.ensures.exact ∙ ap (λ (key : Key). unsealed key c.args.bytes.now) c.new.ensures
