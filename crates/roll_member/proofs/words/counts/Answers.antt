use Rattle.std.proofs.Common.{◌∙◌, arith}
use Rattle.std.proofs.lemmas.List.{length-set}
use Rattle.std.proofs.lemmas.List.Edits.{fill_by_more}
use Rattle.roll_member.specs.Joined.{known}
use Rattle.roll_member.proofs.words.counts.Goals as goal

pub loop-place-preserved : goal.loop-place-preserved
loop-place-preserved g c = record {
  all = length-set c.loop-place.counts c.loop-place.place c.known.result
      ∙ c.loop-place.invariant.all;
  so_far = rw c.known.ensures
      (fill_by_more (known (g.S.Networked.seen c.args.session.now) c.args.seat.now)
      c.loop-place.counts c.loop-place.place 0 (omega (arith, c.loop-place.invariant.all))
      c.loop-place.invariant.so_far);
}
