use Rattle.std.specs.Prelude.{string_bytes}
use Rattle.prog_scripts.specs.Plays.{play_of}
use Rattle.prog_explain.proofs.Drawing.{drawn_of_play, is_accepted}
use Rattle.prog_explain.proofs.pictured.play_seen.Goals as goal

pub returns-in-Ok : goal.returns-in-Ok
returns-in-Ok g c = (
  is_accepted _ (rw (c.settings.ensures) at c.in-Ok.ensures.accepted),
  drawn_of_play g.G.Game.step (g.G.RawGame.snapshot_value c.args.opening) (play_of c.args.script.now) c.args.window c.settings.result c.in-Ok.session _
      (string_bytes c.in_ok-see_started-in-Ok.field-0) c.settings.ensures c.in-Ok.ensures.session c.in_ok-see_started-in-Ok.ensures,
)
