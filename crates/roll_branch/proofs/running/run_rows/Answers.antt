use Rattle.std.proofs.Common.{◌≡◌, suc, ◌+◌, ◌∷◌, [], ◌++◌, length-append, length, take, arith, add-one, sym, ap, refl, ◌∙◌}
use Rattle.roll_frame.specs.Paths.{run}
use Rattle.roll_branch.proofs.States.{worth_more, ran_more}
use Rattle.roll_branch.proofs.running.run_rows.Goals as goal

pub loop-row-preserved : goal.loop-row-preserved
loop-row-preserved g c =
    let l = c.loop-row in
    let from = g.G.RawGame.snapshot_value c.args.from.now in
    let more = ran_more g.G.Game.step from c.args.rows.now l.row-index c.row-item.result (omega arith) c.row-item.is in
    let before = ap (λ v. g.G.Game.step v c.row-item.result) l.invariant.state in
    let stepped = (g.met.G.Game.is_step _ _ _).0 c.in-Ok-advance_and_save.ensures.ran ∙ before ∙ sym more in
    let worth : g.G.RawGame.snapshot_value c.in-Ok-advance_and_save.snapshot ≡ run g.G.Game.step from (take (length l.states.items + 1) c.args.rows.now) =
    c.in-Ok-advance_and_save.ensures.snapshot ∙ stepped ∙ ap (λ n. run g.G.Game.step from (take (n + 1) c.args.rows.now)) (sym l.invariant.many) in
    let pushed : c.push.new.self.items ≡ l.states.items ++ c.in-Ok-advance_and_save.snapshot ∷ [] = rw c.unwrap.ensures at c.push.ensures.items in
    record {
      room = omega (arith, c.push.ensures.capacity, l.invariant.room);
      many = ap length pushed ∙ length-append l.states.items (c.in-Ok-advance_and_save.snapshot ∷ []) ∙ ap (λ n. n + 1) l.invariant.many;
      worth = rw pushed (worth_more g.G.RawGame.snapshot_value g.G.Game.step from c.args.rows.now l.states.items c.in-Ok-advance_and_save.snapshot l.invariant.worth worth);
      state = stepped;
      counts =
          let one : l.row-index + 1 ≡ suc l.row-index = add-one l.row-index in
          rw (one, c.in-Ok-advance_and_save.ensures.counts, l.invariant.counts) refl;
    }
