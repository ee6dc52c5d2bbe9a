use Rattle.std.proofs.Common.{◌≡◌, ◌++◌, map, take}
use Rattle.roll_text.specs.Lines.{text_of}
use Rattle.roll_cert.specs.Texts.{path_line}
use Rattle.roll_cert.proofs.writing.push_paths.Given as goal

abbrev pub invariant-loop-path : goal.invariant-loop-path
invariant-loop-path l = l.out.items ≡ l.initial.out.items ++ text_of (map path_line (take l.path-index l.paths))
