use Rattle.std.proofs.Common.{◌≡◌, ◌∙◌, ap, arith, map, length-set}
use Rattle.std.specs.Option.{option_map_or}
use Rattle.std.specs.Prelude.{slice_get, unwrap_or}
use Rattle.roll_frame.specs.Core.{settled}
use Rattle.roll_viewer.specs.Telling.{has_of}
use Rattle.roll_viewer.proofs.Padding.{at_players, filled_up, mapped_or, one_more}
use Rattle.roll_viewer.proofs.telling.counts.Goals as goal

pub returns : goal.returns
returns g c =
    let core = (g.S.Networked.seen c.args.session.now).core in
    filled_up 0 (map (has_of (settled core)) core.players) c.loop-place.counts c.loop-place.invariant.all
    (λ k l. c.loop-place.invariant.so_far k (omega (arith, l, c.loop-place-test.false))
    ∙ at_players (has_of (settled core)) core.players k 0)

pub loop-place-preserved : goal.loop-place-preserved
loop-place-preserved g c =
    let core = (g.S.Networked.seen c.args.session.now).core in
    let players = core.players in
    let has = has_of (settled core) in
    let counts = c.loop-place.counts in
    let place = c.loop-place.place in
    let count = c.unwrap_or.result in
    let is : count ≡ option_map_or has (slice_get players place) 0 =
    c.unwrap_or.ensures ∙ ap (λ o. unwrap_or o 0) c.has_of.ensures ∙ mapped_or has (slice_get players place) 0 in
    record {
      all = length-set counts place count ∙ c.loop-place.invariant.all;
      so_far = one_more (λ k. option_map_or has (slice_get players k) 0) counts place count 0
          (omega (arith, c.loop-place.invariant.all, c.loop-place-test.true)) c.loop-place.invariant.so_far is;
    }
