use Rattle.std.proofs.Common.{◌≡◌, ◌+◌, ◌++◌, length}
use Rattle.std.specs.List.{AllByRecursion}
use Rattle.roll_text.specs.Lines.{text_of}
use Rattle.prog_scripts.specs.Commands.{IsCommand}
use Rattle.prog_scripts.specs.Headers.{setup_of}
use Rattle.roll_text.proofs.Headed.{lines_so_far}
use Rattle.prog_scripts.proofs.Unplayed.{scripts}
use Rattle.prog_scripts.proofs.script.Script.read.Given as goal

abbrev pub invariant-loop-rest : goal.invariant-loop-rest
invariant-loop-rest l = record {
  whole : l.fn.text ≡ text_of (lines_so_far scripts (setup_of l.header) l.commands.items) ++ l.rest;
  each : AllByRecursion IsCommand l.commands.items;
  count : l.line ≡ length l.commands.items + 2;
}

abbrev pub decreases-loop-rest : goal.decreases-loop-rest
decreases-loop-rest l = length l.rest
