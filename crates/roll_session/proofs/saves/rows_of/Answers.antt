use Rattle.std.proofs.Common.{◌∙◌, ap, sym, arith, length}
use Rattle.roll_session.proofs.Rows.{length-rows_from, rows_from-more, rows_from-none}
use Rattle.roll_session.proofs.saves.rows_of.Goals as goal

pub loop-k-init : goal.loop-k-init
loop-k-init c = c.new-rows.ensures ∙ sym (rows_from-none c.args.board.now.players c.args.board.now.settled)

pub push-requires : goal.push-requires
push-requires c = (omega arith, omega (arith, ap length c.loop-k.invariant, length-rows_from c.args.board.now.players c.args.board.now.settled c.loop-k.k, c.requires))

pub loop-k-preserved : goal.loop-k-preserved
loop-k-preserved c =
    c.push.ensures.items ∙ rw (c.loop-k.invariant, c.row.ensures, c.settled.ensures) (sym (rows_from-more c.args.board.now.players c.args.board.now.settled c.loop-k.k))
