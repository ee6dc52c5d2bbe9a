use Rattle.std.proofs.Common.{◌≡◌, List, ℕ, length, take}
use Rattle.roll_contact.specs.Windows.{IsWindowOf, all_after, answers_of}
use Rattle.roll_contact.proofs.window.Window.take_all.Given as goal

-- the numbers so far were taken, and answered
abbrev pub invariant-loop-at : goal.invariant-loop-at
invariant-loop-at l = record {
  long : length l.answers ≡ length l.came;
  taken : (taken : List ℕ) → IsWindowOf taken l.fn.self → IsWindowOf (all_after taken (take l.at l.came)) l.self;
  answers : (taken : List ℕ) → IsWindowOf taken l.fn.self → take l.at l.answers ≡ answers_of taken (take l.at l.came);
}
