use Rattle.std.proofs.Common.{◌≡◌, ◌++◌, map, take}
use Rattle.roll_text.specs.Lines.{text_of}
use Rattle.roll_cert.specs.Texts.{entry_line}
use Rattle.roll_cert.proofs.writing.push_entries.Given as goal

abbrev pub invariant-loop-entry : goal.invariant-loop-entry
invariant-loop-entry l = l.out.items ≡ l.initial.out.items ++ text_of (map entry_line (take l.entry-index l.entries))
