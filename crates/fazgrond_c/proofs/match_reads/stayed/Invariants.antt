use Rattle.std.proofs.Common.{◌≡◌, ℕ, ◌<◌, length, get_or}
use Rattle.roll_mesh.specs.declared.limits.TheConstants.{MACHINE_LIMIT}
use Rattle.fazgrond_c.specs.Matches.{stayed_at}
use Rattle.fazgrond_c.proofs.match_reads.stayed.Given as goal

abbrev pub invariant-loop-machine : goal.invariant-loop-machine
invariant-loop-machine l =
    (length l.stayed ≡ MACHINE_LIMIT)
    × ((k : ℕ) → k < l.machine → get_or l.stayed k 0 ≡ stayed_at l.online k)
