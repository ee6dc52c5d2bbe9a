use Rattle.std.proofs.Common.{◌≡◌, ℕ, List, map}
use Rattle.std.specs.Fmt.{decimal}
use Rattle.prog_scripts.specs.Headers.{IsRising}
use Rattle.prog_scripts.proofs.Rising.{last_of}
use Rattle.prog_scripts.proofs.lines.players_fault.Given as goal

abbrev pub invariant-loop-part : goal.invariant-loop-part
invariant-loop-part l = (players : List ℕ) × IsRising 0 players × (map decimal players ≡ map (λ part. part.now) l.yielded) × (l.before ≡ last_of 0 players)
