use Rattle.std.proofs.Common.{◌≡◌, ◌∙◌, sym, subst}
use Rattle.std.proofs.lemmas.Bool.{false≢true}
use Rattle.std.proofs.lemmas.Option.{none-some, same_Some}
use Rattle.roll_frame.specs.declared.path.Path.{Path}
use Rattle.roll_frame.specs.Claims.{IsOnPath}
use Rattle.roll_cert.proofs.Entries.{flaw_range, flaw_equal, flaw_twice, good_entry}
use Rattle.roll_cert.proofs.checking.check_entry.Goals as goal

pub returns-in_default-clause-flaw : goal.returns-in_default-clause-flaw
returns-in_default-clause-flaw c = flaw_range c.args.claim.now c.args.j c.entry_at-entry.result c.entry_at-entry.ensures (λ path range. none-some path (sym c.in_default.ensures ∙ range.0))

pub returns-then-not-is_in_range-clause-flaw : goal.returns-then-not-is_in_range-clause-flaw
returns-then-not-is_in_range-clause-flaw c =
    flaw_range c.args.claim.now c.args.j c.entry_at-entry.result c.entry_at-entry.ensures (λ path range.
    let same : path ≡ c.in-Some.path.now = same_Some path c.in-Some.path.now (sym range.0 ∙ c.in-Some.ensures) in
    false≢true (sym c.if-not-is_in_range.true ∙ c.is_in_range.ensures.1 (subst (λ (p : Path). IsOnPath c.args.claim.now c.entry_at-entry.result p) same range.1)))

pub returns-then-is_same-clause-flaw : goal.returns-then-is_same-clause-flaw
returns-then-is_same-clause-flaw c = flaw_equal c.args.claim.now c.args.j c.entry_at-entry.result c.in-Some.path.now c.entry_at-entry.ensures (c.in-Some.ensures, c.is_in_range.ensures.0 c.if-not-is_in_range.false) (c.is_same.ensures.0 c.if-is_same.true)

pub contains-requires : goal.contains-requires
contains-requires c = rw c.as_slice.ensures c.requires.named

pub returns-then-contains-clause-flaw : goal.returns-then-contains-clause-flaw
returns-then-contains-clause-flaw c = flaw_twice c.args.claim.now c.args.j c.entry_at-entry.result c.in-Some.path.now c.entry_at-entry.ensures (c.in-Some.ensures, c.is_in_range.ensures.0 c.if-not-is_in_range.false) (λ same. false≢true (sym c.if-is_same.false ∙ c.is_same.ensures.1 same)) (rw (← c.as_slice.ensures) (sym c.contains.ensures ∙ c.if-contains.true))

pub returns-clause-good : goal.returns-clause-good
returns-clause-good c = good_entry c.args.claim.now c.args.j c.entry_at-entry.result c.in-Some.path.now c.entry_at-entry.ensures (c.in-Some.ensures, c.is_in_range.ensures.0 c.if-not-is_in_range.false) (λ same. false≢true (sym c.if-is_same.false ∙ c.is_same.ensures.1 same)) (rw (← c.as_slice.ensures) (sym c.contains.ensures ∙ c.if-contains.false))
