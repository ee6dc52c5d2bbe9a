use Rattle.std.proofs.Common.{◌∙◌, ℕ, ap, length}
use Rattle.std.proofs.lemmas.Result.{IfOk-weaker}
use Rattle.std.specs.Prelude.{string_bytes}
use Rattle.prog_observer.specs.Observing.{nothing_seen, observed}
use Rattle.roll_cli.specs.Playings.{Played, game_of}
use Rattle.roll_frame.specs.Core.{Core}
use Rattle.prog_explain.proofs.Drawing.{drawn_as}
use Rattle.prog_explain.specs.Pictured.{seen_by}
use Rattle.prog_explain.proofs.pictured.see_playing.Goals as goal

pub returns : goal.returns
returns g c =
    let old : Played = c.args.playing.now in
    let players = c.players.ensures ∙ ap (λ (core : Core). length core.players) c.session.ensures.core in
    let first = c.in_ok-observer.ensures ∙ ap (λ (n : ℕ). nothing_seen n c.args.window) players in
    let seen = c.in_ok-watch_all.ensures.seen ∙ ap (seen_by old.settings (game_of g.G.Game.step old) old.now c.args.commands.now) first in
    let core = c.session-2.ensures.core ∙ ap (λ p. p.core) c.in_ok-watch_all.ensures.played in
    IfOk-weaker c.draw_seen.result _ _ (λ picture drawn.
    drawn_as old.settings (game_of g.G.Game.step old) _ _ (observed c.watch_all.new.observer) c.session-2.result.now (string_bytes picture) core seen drawn) c.draw_seen.ensures
