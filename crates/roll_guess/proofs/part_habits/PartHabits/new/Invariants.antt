use Rattle.std.proofs.Common.{◌≡◌, map, take, length}
use Rattle.roll_guess.specs.Parts.{first_part}
use Rattle.roll_guess.proofs.part_habits.PartHabits.new.Given as goal

abbrev pub invariant-loop-mask : goal.invariant-loop-mask
invariant-loop-mask l = record {
  same : l.seen.items ≡ map (first_part l.likely) (take l.mask-index l.mask-items);
  count : length l.seen.items ≡ l.mask-index;
}
