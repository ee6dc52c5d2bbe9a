use Rattle.std.proofs.Common.{◌≡◌, fold, take}
use Rattle.std.specs.Prelude.{bit_and}
use Rattle.roll_guess.specs.Habits.{known_after}
use Rattle.roll_guess.proofs.part_habits.Part.new.Given as goal

abbrev pub invariant-loop-word : goal.invariant-loop-word
invariant-loop-word l =
    l.habits ≡ record l.initial.habits {
      known = record {
        items = fold (λ known word. known_after known (bit_and word l.mask)) l.initial.habits.known.items (take l.word-index l.likely);
      };
    }
