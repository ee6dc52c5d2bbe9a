use Rattle.std.proofs.Common.{◌≡◌, ◌∙◌, ◌+◌, ◌++◌, [], ◌∷◌, List, cond, drop, take, ap, refl, sym, subst, arith, append_assoc, append-nil, length-take}
use Rattle.std.proofs.lemmas.List.{take-append-drop, take_more}
use Rattle.std.specs.List.{flat_map}
use Rattle.std.proofs.lemmas.Grind.{common_steps, flat_map-append}
use Rattle.prog_scripts.specs.declared.command.Command.{Command}
use Rattle.roll_live.specs.Tellings.{IsLive}
use Rattle.roll_live.specs.Told.{IsFar, items_of}
use Rattle.roll_live.proofs.Ending.{far_here}
use Rattle.roll_live.proofs.Played.{live_more}
use Rattle.roll_live.proofs.playing.Playing.play_all.Goals as goal
use Rattle.roll_live.proofs.playing.Playing.play_all.Goals.{then-branch, else-branch}

pub loop-command-preserved : goal.loop-command-preserved
loop-command-preserved g c =
    let now = c.loop-command.invariant in
    let told = c.in_ok-play.ensures.told in
    let commands = c.args.commands.now in
    let before : List Command = take c.loop-command.command-index commands in
    let taken : before ++ c.command-item.result ∷ [] ≡ take (c.loop-command.command-index + 1) commands =
    ap (λ (x : Command). before ++ x ∷ []) c.command-item.is ∙ sym (take_more commands c.loop-command.command-index c.command-item.result c.loop-command-test.true) in
    let count : c.if-branch.refused ≡ c.loop-command.refused + cond c.in_ok-play.field-0 1 0 = elim c.if-branch.branch [
      | then-branch w ↦ w.refused-is ∙ rw w.if-branch.true refl
      | else-branch w ↦ w.refused-is ∙ rw w.if-branch.false (omega arith)
    ] in
    let more = live_more g.G.Game.step g.G.Shown.text_of c.args.self.now.host.session c.loop-command.self.host.session c.play.new.self.host.session before now.played.0 c.loop-command.refused c.command-item.result told.0 c.in_ok-play.field-0 now.played.1 told.1 in
    record {
      played = (
        now.played.0 ++ told.0,
        subst (λ n. IsLive g.G.Game.step g.G.Shown.text_of c.args.self.now.host.session c.play.new.self.host.session (take (c.loop-command.command-index + 1) commands) (now.played.0 ++ told.0) n) (sym count)
            (subst (λ (cs : List Command). IsLive g.G.Game.step g.G.Shown.text_of c.args.self.now.host.session c.play.new.self.host.session cs (now.played.0 ++ told.0) (c.loop-command.refused + cond c.in_ok-play.field-0 1 0)) taken more),
        told.2 ∙ ap (λ w. w ++ told.0) now.played.2 ∙ append_assoc c.args.out.now.items now.played.0 told.0,
      );
      sent = c.in_ok-play.ensures.sent ∙ ap (λ l. l ++ items_of c.command-item.result) now.sent ∙ append_assoc c.args.self.now.sender.sent (flat_map items_of before) (items_of c.command-item.result)
          ∙ ap (λ l. c.args.self.now.sender.sent ++ l) (ap (λ l. flat_map items_of before ++ l) (sym (append-nil (items_of c.command-item.result))) ∙ sym (flat_map-append items_of before (c.command-item.result ∷ [])) ∙ ap (flat_map items_of) taken);
      places = c.in_ok-play.ensures.places ∙ now.places;
      line = omega (arith, now.line);
      few = elim c.if-branch.branch [ then-branch w ↦ omega (arith, w.refused-is, now.few) | else-branch w ↦ omega (arith, w.refused-is, now.few) ];
    }

pub returns-in_err-play-clause-far : goal.returns-in_err-play-clause-far
returns-in_err-play-clause-far g c = λ line e.
    let now = c.loop-command.invariant in
    let commands = c.args.commands.now in
    let before : List Command = take c.loop-command.command-index commands in
    let after : List Command = drop (c.loop-command.command-index + 1) commands in
    let here = far_here c.from_residual.result c.in_err-play.field-0.0 line (c.loop-command.line + 1) (IsFar c.loop-command.self.host.session c.command-item.result) c.from_residual.ensures.1 e c.in_err-play.ensures.fault in
    let rest : drop c.loop-command.command-index commands ≡ c.command-item.result ∷ after = grind (arith, common_steps) in
    let whole : commands ≡ before ++ c.command-item.result ∷ after = sym (take-append-drop c.loop-command.command-index commands) ∙ ap (λ (cs : List Command). before ++ cs) rest in
    record {
      front = before;
      command = c.command-item.result;
      rest = after;
      commands_are = whole;
      line_is = let long = length-take c.loop-command.command-index commands in omega (arith, here.0, now.line, long, c.loop-command-test.true);
      written = now.played.0;
      refused = c.loop-command.refused;
      mid = c.loop-command.self.host.session;
      played = now.played.1;
      far = here.1;
    }
