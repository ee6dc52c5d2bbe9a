use Rattle.std.proofs.Common.{◌≡◌, List, ℕ, length, ap, ◌∙◌, arith}
use Rattle.roll_contact.specs.Seals.{sealed, tag, unsealed, with_field}
use Rattle.roll_contact.proofs.Seals.{again, length-sealed}
use Rattle.roll_contact.proofs.seal.Sealer.seal.Goals as goal

is_sealed : (c : goal.After-put_field) → c.put_field.new.datagram.items
    ≡ sealed c.args.self.now c.args.datagram.now.items
is_sealed c = c.put_field.ensures
    ∙ ap (λ (bytes : List ℕ). with_field bytes c.args.datagram.now.items)
    (c.tag_of-tag.ensures ∙ ap (tag c.args.self.now) c.deref.ensures.0)

pub returns-clause-sealed : goal.returns-clause-sealed
returns-clause-sealed c = is_sealed c

pub returns-clause-len : goal.returns-clause-len
returns-clause-len c =
    ap length (is_sealed c) ∙ length-sealed c.args.self.now c.args.datagram.now.items c.requires

pub returns-clause-again : goal.returns-clause-again
returns-clause-again c = λ has.
    ap (unsealed c.args.self.now) (is_sealed c)
    ∙ again c.args.self.now c.args.datagram.now.items c.requires
    (omega (arith, c.deref.ensures.1, ap length c.deref.ensures.0)) has
