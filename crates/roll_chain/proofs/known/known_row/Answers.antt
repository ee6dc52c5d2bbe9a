use Rattle.std.proofs.Common.{sym, ◌∙◌, arith}
use Rattle.roll_chain.proofs.KnownRows.{cells_more, not_known, some_players}
use Rattle.roll_chain.proofs.known.known_row.Goals as goal

pub returns-in_err-known_cell : goal.returns-in_err-known_cell
returns-in_err-known_cell g c =
    let s = g.S.Networked.seen c.args.session.now in
    let few = some_players g.S.Networked.step s c.laws.ensures in
    let not = not_known s.core.players c.args.frame 0 few.0 (sym c.known_cell.ensures ∙ c.in_err-known_cell.was) in
    rw not c.from_residual.ensures

pub returns-in_err-known_cell-2 : goal.returns-in_err-known_cell-2
returns-in_err-known_cell-2 g c =
    let s = g.S.Networked.seen c.args.session.now in
    let not = not_known s.core.players c.args.frame c.loop-place.place (omega (arith, c.players-place-end.ensures, c.loop-place-test.true)) (sym c.known_cell-in-loop-place.ensures ∙ c.in_err-known_cell-2.was) in
    rw not c.from_residual-in_err-known_cell-2.ensures

pub push-requires : goal.push-requires
push-requires g c =
    let few = some_players g.S.Networked.step (g.S.Networked.seen c.args.session.now) c.laws.ensures in
    omega (arith, few.1, c.loop-place.invariant.many, c.players-place-end.ensures, c.loop-place-test.true)

pub loop-place-preserved : goal.loop-place-preserved
loop-place-preserved g c =
    let s = g.S.Networked.seen c.args.session.now in
    rw c.push.ensures
    (cells_more s.core.players c.args.frame c.loop-place.place c.loop-place.row c.in_ok-known_cell-2.field-0 c.loop-place.invariant (sym c.known_cell-in-loop-place.ensures ∙ c.in_ok-known_cell-2.was))
