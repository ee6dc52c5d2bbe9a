use Rattle.std.proofs.Common.{◌∙◌, ap, arith, map, length-set}
use Rattle.std.specs.Option.{option_map_or}
use Rattle.std.specs.Prelude.{slice_get}
use Rattle.roll_frame.specs.Core.{settled}
use Rattle.roll_mesh.specs.Machines.{none_offered}
use Rattle.roll_viewer.specs.Telling.{span_of, padded}
use Rattle.roll_viewer.proofs.Padding.{at_players, filled_up, one_more}
use Rattle.roll_viewer.proofs.telling.spans_to.Goals as goal

pub returns : goal.returns
returns g c =
    let core = (g.S.Networked.seen c.args.session.now).core in
    let offer = span_of (settled core) c.args.had c.room_after-room.result in
    filled_up none_offered (map offer core.players) c.loop-place.spans c.loop-place.invariant.all
    (λ k l. c.loop-place.invariant.so_far k (omega (arith, l, c.loop-place-test.false))
    ∙ at_players offer core.players k none_offered)
    ∙ ap (λ room. padded none_offered (map (span_of (settled core) c.args.had room) core.players)) c.room_after-room.ensures.room

pub loop-place-preserved : goal.loop-place-preserved
loop-place-preserved g c =
    let core = (g.S.Networked.seen c.args.session.now).core in
    let spans = c.loop-place.spans in
    let place = c.loop-place.place in
    let one = c.span_of.result in
    record {
      all = length-set spans place one ∙ c.loop-place.invariant.all;
      so_far = one_more (λ k. option_map_or (span_of (settled core) c.args.had c.room_after-room.result) (slice_get core.players k) none_offered)
          spans place one none_offered
          (omega (arith, c.loop-place.invariant.all, c.loop-place-test.true)) c.loop-place.invariant.so_far c.span_of.ensures;
    }
