use Rattle.std.proofs.Common.{◌≡◌, ◌∙◌, ◌+◌, ◌≤◌, ap, refl, arith}
use Rattle.std.specs.Prelude.{if◌then◌else◌, is_some}
use Rattle.std.proofs.lemmas.Grind.{common_steps}
use Rattle.roll_frame.specs.Games.{Value, Game}
use Rattle.prog_scripts.specs.Output.{after_command}
use Rattle.roll_cli.specs.Playings.{Played, game_of}
use Rattle.prog_scripts.proofs.Outlined.{not_none_first}
use Rattle.roll_cli.proofs.PlayedTo.{played_none, played_more}
use Rattle.roll_cli.proofs.playing.Playing.play_all.Goals as goal
use Rattle.roll_cli.proofs.playing.Playing.play_all.Goals.{then-is_some, else-is_some}

pub loop-rest-init : goal.loop-rest-init
loop-rest-init g c = record {
  settings = refl;
  opening = refl;
  played = played_none g.G.Shown.text_of c.args.self.now.settings (game_of g.G.Game.step c.args.self.now) c.args.self.now.now c.args.out.now.items c.args.commands.now c.requires.readable;
}

pub unreachable-requires : goal.unreachable-requires
unreachable-requires g c =
    let now = c.loop-rest.invariant.played in
    let none = rw c.in_default.is at c.in_ok-command.ensures in
    not_none_first c.loop-rest.rest.now now.left now.are (grind (arith, common_steps)) none

pub loop-rest-preserved-after-is_some : goal.loop-rest-preserved-after-is_some
loop-rest-preserved-after-is_some g c =
    let now = c.loop-rest.invariant in
    let first : Played = c.args.self.now in
    let old : Played = c.loop-rest.self in
    let new : Played = c.play.new.self in
    let game : Game = game_of g.G.Game.step first in
    let e = c.in_ok-play.ensures in
    let cut = rw c.in-Some.is at c.in_ok-command.ensures in
    let same_game : game_of g.G.Game.step old ≡ game = ap (λ (x : Value). record { opening = x; step = g.G.Game.step }) now.opening in
    let playing : new.now ≡ after_command first.settings game old.now c.in-Some.command = ap (λ (v : Played). v.now) e.played ∙ rw (now.settings, same_game) refl in
    let count : c.if-is_some.refused ≡ c.loop-rest.refused + (if c.is_some.result then 1 else 0) = elim c.if-is_some.branch [
      | then-is_some w ↦ w.refused-is ∙ rw w.if-is_some.true refl
      | else-is_some w ↦ w.refused-is ∙ rw w.if-is_some.false (omega arith)
    ] in
    let one : c.if-is_some.refused ≤ c.loop-rest.refused + 1 = elim c.if-is_some.branch [ then-is_some w ↦ omega (arith, w.refused-is) | else-is_some w ↦ omega (arith, w.refused-is) ] in
    record {
      settings = ap (λ (v : Played). v.settings) e.played ∙ now.settings;
      opening = ap (λ (v : Played). v.opening) e.played ∙ now.opening;
      played = played_more g.G.Shown.text_of first.settings game first.now old.now new.now c.args.out.now.items c.loop-rest.out.items c.play.new.out.items c.args.commands.now c.loop-rest.rest.now c.in-Some.after.now c.loop-rest.refused c.if-is_some.refused c.in-Some.command c.is_some.result
          now.played (grind (arith, common_steps)) cut.0 cut.1 playing (e.written ∙ rw (now.settings, same_game) refl) (c.is_some.ensures ∙ ap is_some (e.refused ∙ rw (now.settings, same_game) refl)) count one;
    }

pub loop-rest-preserved : goal.loop-rest-preserved
loop-rest-preserved g c =
    let now = c.loop-rest.invariant in
    let first : Played = c.args.self.now in
    let old : Played = c.loop-rest.self in
    let new : Played = c.play.new.self in
    let game : Game = game_of g.G.Game.step first in
    let e = c.in_ok-play.ensures in
    let cut = rw c.in-Some.is at c.in_ok-command.ensures in
    let same_game : game_of g.G.Game.step old ≡ game = ap (λ (x : Value). record { opening = x; step = g.G.Game.step }) now.opening in
    let playing : new.now ≡ after_command first.settings game old.now c.in-Some.command = ap (λ (v : Played). v.now) e.played ∙ rw (now.settings, same_game) refl in
    let count : c.if-is_some.refused ≡ c.loop-rest.refused + (if c.is_some.result then 1 else 0) = elim c.if-is_some.branch [
      | then-is_some w ↦ w.refused-is ∙ rw w.if-is_some.true refl
      | else-is_some w ↦ w.refused-is ∙ rw w.if-is_some.false (omega arith)
    ] in
    let one : c.if-is_some.refused ≤ c.loop-rest.refused + 1 = elim c.if-is_some.branch [ then-is_some w ↦ omega (arith, w.refused-is) | else-is_some w ↦ omega (arith, w.refused-is) ] in
    record {
      settings = ap (λ (v : Played). v.settings) e.played ∙ now.settings;
      opening = ap (λ (v : Played). v.opening) e.played ∙ now.opening;
      played = played_more g.G.Shown.text_of first.settings game first.now old.now new.now c.args.out.now.items c.loop-rest.out.items c.play.new.out.items c.args.commands.now c.loop-rest.rest.now c.in-Some.after.now c.loop-rest.refused c.if-is_some.refused c.in-Some.command c.is_some.result
          now.played (grind (arith, common_steps)) cut.0 cut.1 playing (e.written ∙ rw (now.settings, same_game) refl) (c.is_some.ensures ∙ ap is_some (e.refused ∙ rw (now.settings, same_game) refl)) count one;
    }
