use Rattle.std.proofs.Common.{◌≡◌, ◌==◌, ◌++◌, sym, ap, ◌∙◌, rules}
use Rattle.std.specs.List.{slice_split}
use Rattle.prog_scripts.specs.Headers.{header_of, setup_of}
use Rattle.prog_scripts.proofs.Headings.{split-header}
use Rattle.prog_scripts.proofs.header.Header.read.Goals as goal

pub returns-in_default : goal.returns-in_default
returns-in_default c = λ setup fits e.
    let made = c.in_ok-header.ensures.complete setup fits (rw c.deref.ensures.value (c.in_ok-fields.ensures ∙ ap (slice_split (λ b. b == 32)) e ∙ split-header setup fits)) in
    let none = rw c.in_default.is at made in cc

pub returns : goal.returns
returns c = λ setup fits e.
    let made = c.in_ok-header.ensures.complete setup fits (rw c.deref.ensures.value (c.in_ok-fields.ensures ∙ ap (slice_split (λ b. b == 32)) e ∙ split-header setup fits)) in
    let some = rw c.in-Some.is at made in
    let same : setup_of c.in-Some.header ≡ setup = cc in
    let text : c.as_slice.result.now ≡ c.args.line.now = c.as_slice.ensures.value ∙ c.in_ok-push.ensures ∙ ap (λ t. t ++ header_of (setup_of c.in-Some.header)) c.new-text.ensures.items ∙ ap header_of same ∙ sym e in
    search rules
