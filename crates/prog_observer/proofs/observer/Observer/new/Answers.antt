use Rattle.std.proofs.Common.{◌+◌, refl}
use Rattle.prog_observer.proofs.Mapping.{hearing_more}
use Rattle.prog_observer.proofs.observer.Observer.new.Goals as goal

pub loop-place-preserved : goal.loop-place-preserved
loop-place-preserved c = record {
  heard = hearing_more c.loop-place.hearings.items c.push.new.self.items
      (record { player = c.loop-place.place + 1; words = c.new.result }) c.loop-place.place
      c.in_ok-push.ensures.items refl c.new.ensures.items c.loop-place.invariant.heard;
}
