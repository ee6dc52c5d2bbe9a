use Rattle.std.proofs.Common.{◌∙◌, ◌<◌, ◌≤◌, [], Some, ap, arith, sym, length}
use Rattle.std.specs.Prelude.{slice_index_or}
use Rattle.std.proofs.lemmas.List.{take_all}
use Rattle.std.proofs.lemmas.Option.{slice_get-get_or}
use Rattle.roll_inputs.proofs.Recorded.{length_row, players_seen, take_next}
use Rattle.roll_inputs.proofs.record.Record.get.Goals as goal

pub at-requires-clause-place : goal.at-requires-clause-place
at-requires-clause-place c = omega (arith, players_seen c.self.inside c.args.self.now c.self.view_is, c.self.invariant.some)

pub loop-place-preserved : goal.loop-place-preserved
loop-place-preserved c =
    c.push.ensures
    ∙ rw c.loop-place.invariant (sym (take_next (slice_index_or c.args.self.now.rows c.args.frame []) c.loop-place.place c.at-in-loop-place.result c.at-in-loop-place.ensures))

pub returns : goal.returns
returns c =
    let seen = c.args.self.now in
    let row = slice_index_or seen.rows c.args.frame [] in
    let within : c.args.frame < length seen.rows = omega (arith, c.if-frame-len.false, c.len.ensures) in
    let long = length_row c.self.inside seen c.args.frame c.self.invariant c.self.view_is within in
    let all : length row ≤ c.loop-place.place = omega (arith, long, c.from-players.ensures, c.loop-place-test.false) in
    ap Some (c.loop-place.invariant ∙ take_all c.loop-place.place row all) ∙ sym (slice_get-get_or seen.rows c.args.frame [] within)
