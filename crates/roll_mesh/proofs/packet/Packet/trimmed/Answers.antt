use Rattle.std.proofs.Common.{◌∙◌, refl, arith}
use Rattle.std.specs.Prelude.{slice_index}
use Rattle.std.proofs.lemmas.List.{length-set}
use Rattle.std.proofs.lemmas.List.Edits.{fill_by_more}
use Rattle.roll_mesh.specs.Machines.{none_offered, offer_at, trimmed_offer, trimmed}
use Rattle.roll_mesh.proofs.Places.{filled}
use Rattle.roll_mesh.proofs.packet.Packet.trimmed.Goals as goal

pub loop-player-preserved : goal.loop-player-preserved
loop-player-preserved c =
    record {
      all = length-set c.loop-player.offers c.loop-player.player c.trimmed.result
          ∙ c.loop-player.invariant.all;
      so_far = rw c.trimmed.ensures
          (fill_by_more (λ p. trimmed_offer (slice_index c.args.most.now p)
          (offer_at c.args.self.now p)) c.loop-player.offers c.loop-player.player none_offered
          (omega (arith, c.loop-player.invariant.all)) c.loop-player.invariant.so_far);
    }

pub returns : goal.returns
unfolding trimmed
returns c =
    let all = filled
    (λ p. trimmed_offer (slice_index c.args.most.now p) (offer_at c.args.self.now p))
    c.args.self.now.offers c.loop-player.offers none_offered
    (omega (arith, c.loop-player.invariant.all))
    (λ p l. c.loop-player.invariant.so_far p (omega arith)) in
    rw all refl
