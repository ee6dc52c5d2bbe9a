-- What is noted of a line that is refused.
use Rattle.std.specs.Prelude.{ℕ, List, ◌++◌, codes}
use Rattle.std.specs.Fmt.{decimal}
use Rattle.roll_frame.specs.declared.refusal.Refusal.{Refusal}
use Rattle.roll_text.specs.Lines.{ended}
use Rattle.prog_scripts.specs.Output.{refused_line}

-- what is noted where a line of a script is refused, with what the refusal means
abbrev pub refused_note : ℕ → Refusal → List ℕ → List ℕ
refused_note line why meaning =
    ended (codes "line " ++ (decimal line ++ (codes ": "
    ++ (refused_line why ++ (codes ": " ++ meaning)))))
