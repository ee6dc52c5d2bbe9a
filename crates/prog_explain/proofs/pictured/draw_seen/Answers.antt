use Rattle.std.proofs.lemmas.Result.{IfOk-weaker}
use Rattle.prog_explain.proofs.pictured.draw_seen.Goals as goal

pub returns : goal.returns
returns g c =
    let scene = c.in_ok-scene.ensures in
    IfOk-weaker c.draw.result _ _ (λ picture drawn. record {
      scene = c.in_ok-scene.scene;
      from = scene.from;
      to = scene.to;
      lanes = scene.lanes;
      rolls = scene.rolls;
      tree = scene.tree;
      drawn = drawn;
    }) c.draw.ensures
