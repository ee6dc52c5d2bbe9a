use Rattle.std.proofs.Common.{arith}
use Rattle.std.proofs.lemmas.List.FromFn.{fill_by_all}
use Rattle.roll_mesh.specs.declared.limits.TheConstants.{MACHINE_LIMIT}
use Rattle.fazgrond_c.specs.Matches.{stayed_at}
use Rattle.fazgrond_c.proofs.match_reads.stayed.Goals as goal

pub returns : goal.returns
returns c =
    fill_by_all (stayed_at c.args.online.now) c.loop-machine.stayed MACHINE_LIMIT 0 c.loop-machine.invariant.0
    (λ k l. c.loop-machine.invariant.1 k (omega (arith, l)))
