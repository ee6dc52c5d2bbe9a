use Rattle.std.proofs.Common.{◌++◌, ◌∙◌, List, ℕ, ap}
use Rattle.sha2.specs.Sha256.{sha256}
use Rattle.roll_contact.specs.Keys.{padded}
use Rattle.roll_contact.specs.Seals.{hmac}
use Rattle.roll_contact.specs.declared.key.Key.{Key}
use Rattle.roll_contact.specs.declared.seal.TheConstants.{OUTER}
use Rattle.roll_contact.proofs.seal.Sealer.hmac_of.Goals as goal

pub returns : goal.returns
returns c =
    c.digest_after.ensures _ c.self.invariant.outer
    ∙ ap (λ (inner : List ℕ). sha256 (padded OUTER c.self.inside.key ++ inner))
    (c.digest_after-inner.ensures _ c.self.invariant.inner)
    ∙ ap (λ (key : Key). hmac key c.args.datagram.now) c.self.view_is
