use Rattle.std.proofs.Common.{◌≡◌, ◌∙◌, false, sym, arith}
use Rattle.roll_mesh.specs.HoldingUp.{is_clear, is_leaving, knows_more}
use Rattle.roll_mesh.specs.declared.limits.TheConstants.{PLAYER_LIMIT}
use Rattle.roll_mesh.proofs.HoldingUp.{clear_is, not_or_left, not_or_right}
use Rattle.roll_mesh.proofs.Places.{all_until, not_all_below}
use Rattle.roll_mesh.proofs.holding_up.are_clear.Goals.{then-knows_more-via-then-knows_more, then-knows_more-via-else-knows_more+then-is_leaving}
use Rattle.roll_mesh.proofs.holding_up.are_clear.Goals as goal

pub returns-then-knows_more : goal.returns-then-knows_more
returns-then-knows_more c =
    let seat = c.args.seat.now in
    let here = c.args.here.now in
    let view = c.args.view.now in
    let p = c.loop-player.player in
    let own = c.given_by-own.result in
    let more = knows_more seat here c.args.machine view.has p in
    let leaving = is_leaving here c.args.threshold own view.has p in
    let shut : is_clear seat here c.args.threshold c.args.machine own view.has p ≡ false = elim c.then-knows_more.branch [
      | then-knows_more-via-then-knows_more w ↦ not_or_left more leaving (sym c.knows_more.ensures ∙ w.if-knows_more.true)
      | then-knows_more-via-else-knows_more+then-is_leaving w ↦ not_or_right more leaving (sym w.is_leaving.ensures ∙ w.if-is_leaving.true)
    ] in
    sym (clear_is seat here c.args.threshold c.args.machine view
    ∙ rw (← c.given_by-own.ensures) (not_all_below (is_clear seat here c.args.threshold c.args.machine own view.has) PLAYER_LIMIT p (omega arith) shut))

pub returns : goal.returns
returns c =
    let seat = c.args.seat.now in
    let here = c.args.here.now in
    let view = c.args.view.now in
    let own = c.given_by-own.result in
    sym (clear_is seat here c.args.threshold c.args.machine view
    ∙ rw (← c.given_by-own.ensures) (all_until (is_clear seat here c.args.threshold c.args.machine own view.has) PLAYER_LIMIT c.loop-player.player (omega arith)
    c.loop-player.invariant))
