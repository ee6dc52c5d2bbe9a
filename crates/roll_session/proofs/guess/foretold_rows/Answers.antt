use Rattle.std.proofs.Common.{◌∙◌, List, ap, sym, arith, length}
use Rattle.roll_frame.specs.Timeline.{Player}
use Rattle.roll_inputs.specs.Foretold.{foretold}
use Rattle.roll_session.proofs.Rows.{length-rows_from, rows_from-more, rows_from-none}
use Rattle.roll_session.proofs.guess.foretold_rows.Goals as goal

pub loop-k-init : goal.loop-k-init
loop-k-init c = c.new-rows.ensures ∙ sym (rows_from-none (foretold c.args.board.now.players c.args.words.now) c.args.board.now.settled)

pub push-requires : goal.push-requires
push-requires c =
    let players : List Player = foretold c.args.board.now.players c.args.words.now in
    (omega arith, omega (arith, ap length c.loop-k.invariant, length-rows_from players c.args.board.now.settled c.loop-k.k, c.loop-k-test.true, c.settled-settled.ensures, c.requires.near))

pub loop-k-preserved : goal.loop-k-preserved
loop-k-preserved c =
    let players : List Player = foretold c.args.board.now.players c.args.words.now in
    c.push.ensures.items ∙ rw (c.loop-k.invariant, c.foretold.ensures, c.settled-settled.ensures) (sym (rows_from-more players c.args.board.now.settled c.loop-k.k))
