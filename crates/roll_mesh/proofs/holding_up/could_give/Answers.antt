use Rattle.std.proofs.Common.{◌≡◌, ◌∙◌, false, sym, arith}
use Rattle.std.specs.Prelude.{not, nat_lt}
use Rattle.std.proofs.lemmas.Bool.{lt-ltb, not_from_true, or_from}
use Rattle.roll_mesh.specs.HoldingUp.{is_open_at, keeps_open}
use Rattle.roll_mesh.specs.Machines.{owner_of}
use Rattle.roll_mesh.specs.declared.limits.TheConstants.{PLAYER_LIMIT}
use Rattle.roll_mesh.proofs.HoldingUp.{could_is}
use Rattle.roll_mesh.proofs.Places.{all_until, not_all_below}
use Rattle.roll_mesh.proofs.holding_up.could_give.Goals as goal

pub returns-then-not-is_open_at : goal.returns-then-not-is_open_at
returns-then-not-is_open_at c =
    let seat = c.args.seat.now in
    let here = c.args.here.now in
    let view = c.args.view.now in
    let p = c.loop-player.player in
    let own = c.given_by-own.result in
    let shut : keeps_open seat here c.args.threshold own view.has p ≡ false =
    or_from (not (nat_lt (owner_of seat p) seat.machines)) (is_open_at here c.args.threshold own view.has p)
    (not_from_true (nat_lt (owner_of seat p) seat.machines)
    (lt-ltb (owner_of seat p) seat.machines (omega (arith, c.if-owner_of-seat.true, c.owner_of.ensures))))
    (sym c.is_open_at.ensures ∙ c.if-not-is_open_at.true) in
    sym (could_is seat here c.args.threshold c.args.machine view
    ∙ rw (← c.given_by-own.ensures) (not_all_below (keeps_open seat here c.args.threshold own view.has) PLAYER_LIMIT p (omega arith) shut))

pub returns : goal.returns
returns c =
    let seat = c.args.seat.now in
    let here = c.args.here.now in
    let view = c.args.view.now in
    let own = c.given_by-own.result in
    sym (could_is seat here c.args.threshold c.args.machine view
    ∙ rw (← c.given_by-own.ensures) (all_until (keeps_open seat here c.args.threshold own view.has) PLAYER_LIMIT c.loop-player.player (omega arith)
    c.loop-player.invariant))
