-- How long scripts are.
use Rattle.std.proofs.Common.{◌≡◌, ℕ, ◌≤◌, ◌<◌, ◌^◌, List, [], ◌∷◌, length, length-append, ap, arith}
use Rattle.std.proofs.lemmas.List.{length-map}
use Rattle.roll_text.specs.Lines.{ended, text_of}
use Rattle.roll_text.specs.declared.streams.TheConstants.{TEXT_LIMIT}
use Rattle.prog_scripts.specs.Commands.{line_of}
use Rattle.prog_scripts.specs.Plays.{Play, play_lines}

lines_fit : (lines : List (List ℕ)) → length lines ≤ length (text_of lines)
lines_fit [] = omega arith
lines_fit (line ∷ lines) = omega (arith, length-append (ended line) (text_of lines), length-append line (10 ∷ []), lines_fit lines)

-- a text that isn't too long has few commands
pub few_commands : (play : Play) (text : List ℕ) → text ≡ text_of (play_lines play) → length text ≤ TEXT_LIMIT → length play.commands < 2 ^ 32
few_commands play text e short = omega (arith, ap length e, lines_fit (play_lines play), length-map play.commands line_of)
