use Rattle.std.proofs.Common.{◌≡◌, ℕ, Bool, true, take}
use Rattle.std.specs.List.{list_all}
use Rattle.roll_tree.specs.Rule.{IsLive}
use Rattle.roll_tree.proofs.prune.keeps_all.Given as goal

-- the nodes of the names so far stay
abbrev pub invariant-loop-name : goal.invariant-loop-name
invariant-loop-name g l = (live : ℕ → Bool) → IsLive l.top l.rule l.nodes.slots live → list_all live (take l.name-index l.order) ≡ true
