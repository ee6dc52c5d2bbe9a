use Rattle.std.proofs.Common.{◌≡◌, ◌-◌, length, length-drop, take, drop, arith}
use Rattle.std.proofs.lemmas.Grind.{common_steps}
use Rattle.std.proofs.Math.Seq.{take-add}
use Rattle.std.proofs.lemmas.List.{take_all}
use Rattle.roll_text.proofs.KnownTexts.{appends_more}
use Rattle.roll_text.proofs.streams.write_all.Goals as goal

pub loop-at-preserved : goal.loop-at-preserved
loop-at-preserved g c = record {
  within = grind (arith, common_steps);
  written =
      let rest : take (length c.args.text.now - c.loop-at.at) (drop c.loop-at.at c.args.text.now) ≡ drop c.loop-at.at c.args.text.now
      = take_all _ _ (omega (arith, length-drop c.loop-at.at c.args.text.now)) in
      appends_more _ _ _ _ _ _ c.loop-at.invariant.written c.in-Ok.ensures.bytes (rw rest (take-add c.loop-at.at c.in-Ok.count c.args.text.now));
}
