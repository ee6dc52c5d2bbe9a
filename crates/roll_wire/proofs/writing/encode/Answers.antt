use Rattle.std.proofs.Common.{List, ℕ, ◌++◌, ap, ◌∙◌, sym}
use Rattle.std.proofs.lemmas.Bool.{false≢true}
use Rattle.roll_wire.specs.Spelling.{body, envelope, message, number}
use Rattle.roll_wire.specs.declared.limits.TheConstants.{MAGIC}
use Rattle.roll_wire.proofs.Appends.{joined}
use Rattle.roll_wire.proofs.Wholes.{fits_whole}
use Rattle.roll_wire.proofs.writing.encode.Goals as goal

pub returns-then-not-is_whole-clause-none : goal.returns-then-not-is_whole-clause-none
returns-then-not-is_whole-clause-none c =
    λ f. false≢true (sym (sym c.is_whole.ensures ∙ c.if-not-is_whole.true)
    ∙ fits_whole (message c.args.datagram.now).content f.content)

pub returns-clause-spelled : goal.returns-clause-spelled
returns-clause-spelled c =
    let m = message c.args.datagram.now in
    let rest = joined c.put_u32.new.out.items c.put_envelope.new.out.items
    c.put_body.new.out.items (envelope m.envelope) (body m.content) c.put_envelope.ensures.items
    c.put_body.ensures.items in
    let all = joined c.new-out.result.items c.put_u32.new.out.items c.put_body.new.out.items
    (number MAGIC) (envelope m.envelope ++ body m.content) c.put_u32.ensures.items rest in (
      record { envelope = c.put_envelope.ensures.fits; content = c.put_body.ensures.fits },
      all ∙ ap (λ (old : List ℕ). old ++ (number MAGIC ++ (envelope m.envelope ++ body m.content)))
          c.new-out.ensures,
    )
