use Rattle.std.proofs.Common.{◌≡◌, ◌≤◌, List, ℕ, Some, length, sym, ap, ◌∙◌, arith}
use Rattle.std.specs.Str.{bytes_eq}
use Rattle.roll_wire.specs.declared.limits.TheConstants.{DATAGRAM_LIMIT}
use Rattle.roll_contact.specs.Seals.{field, named, tag, with_field}
use Rattle.roll_contact.specs.declared.key.Key.{Key}
use Rattle.roll_contact.proofs.Seals.{another, the_same}
use Rattle.roll_contact.proofs.seal.Sealer.unseal.Goals as goal

pub returns-then-are_same-clause-exact : goal.returns-then-are_same-clause-exact
returns-then-are_same-clause-exact c =
    let key : Key = c.args.self.now in
    let bytes : List ℕ = c.args.bytes.now in
    let text : c.put_field.new.datagram.items ≡ named key.number bytes =
    c.put_field.ensures
    ∙ ap (λ (f : List ℕ). with_field f c.in-Ok.datagram.items) c.to_be_bytes.ensures
    ∙ ap (λ (k : Key). named k.number c.in-Ok.datagram.items) c.self.view_is
    ∙ ap (named key.number) c.in-Ok.ensures.0 in
    let tags : c.are_same.result ≡ bytes_eq (tag key (named key.number bytes)) (field bytes) =
    c.are_same.ensures
    ∙ ap (λ (t : List ℕ). bytes_eq t c.field_of.result)
    (c.tag_of.ensures ∙ ap (tag key) (c.deref.ensures.0 ∙ text))
    ∙ ap (bytes_eq (tag key (named key.number bytes))) c.field_of.ensures in
    let most : length bytes ≤ DATAGRAM_LIMIT =
    omega (arith, ap length c.in-Ok.ensures.0, c.in-Ok.ensures.1) in
    ap Some text
    ∙ sym (the_same key bytes (omega (arith, c.if-bytes-lt12.false)) most (sym tags ∙ c.if-are_same.true))

pub returns-else-are_same-clause-exact : goal.returns-else-are_same-clause-exact
returns-else-are_same-clause-exact c =
    let key : Key = c.args.self.now in
    let bytes : List ℕ = c.args.bytes.now in
    let text : c.deref.result.now ≡ named key.number bytes =
    c.deref.ensures.0 ∙ c.put_field.ensures
    ∙ ap (λ (f : List ℕ). with_field f c.in-Ok.datagram.items) c.to_be_bytes.ensures
    ∙ ap (λ (k : Key). named k.number c.in-Ok.datagram.items) c.self.view_is
    ∙ ap (named key.number) c.in-Ok.ensures.0 in
    let tags : c.are_same.result ≡ bytes_eq (tag key (named key.number bytes)) (field bytes) =
    c.are_same.ensures
    ∙ ap (λ (t : List ℕ). bytes_eq t c.field_of.result) (c.tag_of.ensures ∙ ap (tag key) text)
    ∙ ap (bytes_eq (tag key (named key.number bytes))) c.field_of.ensures in
    sym (another key bytes (omega (arith, c.if-bytes-lt12.false)) (sym tags ∙ c.if-are_same.false))
