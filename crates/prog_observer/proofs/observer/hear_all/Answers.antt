use Rattle.std.proofs.Common.{arith}
use Rattle.prog_observer.specs.Hearing.{after_hearing, heard_words}
use Rattle.prog_observer.proofs.Mapping.{changed_more}
use Rattle.prog_observer.proofs.observer.hear_all.Goals as goal

pub loop-hearing-preserved : goal.loop-hearing-preserved
loop-hearing-preserved g c = record {
  heard = changed_more heard_words (after_hearing c.args.session.now c.args.at) c.loop-hearing.hearings
      c.args.hearings.now c.loop-hearing.hearing-index
      c.hearing-item.result c.hear.new.self c.loop-hearing.invariant.heard (omega arith) (omega arith) c.in_ok-hear.ensures;
}
