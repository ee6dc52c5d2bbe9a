use Rattle.std.proofs.Common.{◌≡◌, ◌≤◌, ◌+◌, ◌*◌, ◌^◌, suc, drop}
use Rattle.roll_game.specs.Tally.{shares}
use Rattle.roll_game.proofs.tally.stepped.Given as goal

abbrev pub invariant-loop-index : goal.invariant-loop-index
invariant-loop-index l = record {
  value : l.total + shares (suc l.index) (drop l.index l.cell-items) ≡ 10 * l.sum + shares 1 l.cell-items;
  small : l.total ≤ 10 * 2 ^ 32 + l.index * (8 * 2 ^ 32);
}
