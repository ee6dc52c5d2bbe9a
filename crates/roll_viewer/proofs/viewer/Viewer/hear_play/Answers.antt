use Rattle.std.proofs.Common.{◌∙◌, ap, subst}
use Rattle.std.specs.Prelude.{max}
use Rattle.roll_wire.specs.Spelling.{turn}
use Rattle.roll_viewer.specs.Lines.{after_play}
use Rattle.roll_viewer.specs.Rows.{AreTaken}
use Rattle.roll_viewer.proofs.viewer.Viewer.hear_play.Goals as goal

pub returns-clause-heard : goal.returns-clause-heard
returns-clause-heard c = rw (← c.self.view_is) (record {
  line = c.hear_play.ensures ∙ ap (λ rows. after_play c.self.inside.line c.args.play.now.head rows c.args.now) c.count-rows.ensures.count;
  settled = c.max-self-inside.ensures ∙ ap (λ n. max c.self.inside.settled n) c.most_of.ensures;
  rows = subst (λ n. AreTaken n (turn c.args.play.now) c.self.inside.rows c.take_rows.new.queue c.take_rows.result)
      c.players-players.ensures.count c.take_rows.ensures;
})
