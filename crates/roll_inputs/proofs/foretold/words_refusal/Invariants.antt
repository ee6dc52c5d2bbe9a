use Rattle.std.proofs.Common.{◌≡◌, take, drop}
use Rattle.roll_frame.specs.Refusals.{first_refusal}
use Rattle.roll_inputs.specs.Boards.{players_of}
use Rattle.roll_inputs.specs.Foretold.{each_tests, foretold}
use Rattle.roll_inputs.proofs.foretold.words_refusal.Given as goal

abbrev pub invariant-loop-place : goal.invariant-loop-place
invariant-loop-place l = first_refusal (each_tests (players_of l.queues) l.words) ≡ first_refusal (each_tests (foretold (players_of l.queues) (take l.place l.words)) (drop l.place l.words))
