use Rattle.std.proofs.Common.{arith}
use Rattle.std.specs.Prelude.{max, slice_index}
use Rattle.std.proofs.lemmas.List.FromFn.{fill_by_all}
use Rattle.roll_mesh.specs.declared.limits.TheConstants.{PLAYER_LIMIT}
use Rattle.roll_member.specs.Taking.{are_full, counted_to, up_to}
use Rattle.roll_member.proofs.words.up_to.Goals as goal

pub returns : goal.returns
unfolding up_to
returns c =
    let mesh = c.args.mesh.now in
    fill_by_all (λ p. max (slice_index mesh.machine.has p)
    (counted_to mesh.seat mesh.machine.gone (are_full mesh.seat mesh.machine c.args.end c.args.most.now) c.args.end c.args.most.now p))
    c.loop-place.counts PLAYER_LIMIT 0 c.loop-place.invariant.0 (λ p l. c.loop-place.invariant.1 p (omega (arith, l)))
