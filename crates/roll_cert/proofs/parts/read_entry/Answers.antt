use Rattle.std.proofs.Common.{◌≡◌, ◌==◌, map, arith}
use Rattle.std.specs.List.{slice_split}
use Rattle.roll_text.specs.Text.{Reads}
use Rattle.roll_text.proofs.Joined.{reads-joined}
use Rattle.roll_cert.specs.Texts.{IsEntry, entry_fields}
use Rattle.roll_cert.proofs.Spelled.{entry_fields-lack}
use Rattle.roll_cert.proofs.parts.read_entry.Goals as goal

pub returns : goal.returns
returns c =
    let cut : map (λ field. field.now) c.deref.result.now ≡ slice_split (λ b. b == 32) c.args.text.now = rw c.deref.ensures.value c.in_ok-fields.ensures in
    let found : Reads IsEntry entry_fields (slice_split (λ b. b == 32) c.args.text.now) c.entry_from.result = rw (← cut) c.entry_from.ensures in
    reads-joined 32 IsEntry entry_fields (λ entry fits. (omega arith, entry_fields-lack 32 (omega arith) entry fits)) c.args.text.now c.entry_from.result found
