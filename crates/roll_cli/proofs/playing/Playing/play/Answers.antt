use Rattle.std.proofs.Common.{◌∙◌, ◌≤◌, ◌++◌, ap, sym, length, subst}
use Rattle.std.proofs.lemmas.Result.{IfOk-weaker, on_ok_weaker}
use Rattle.std.specs.Result.{result_err}
use Rattle.roll_frame.specs.declared.limits.TheConstants.{PLAYER_LIMIT}
use Rattle.roll_session.proofs.Following.{small_of}
use Rattle.roll_text.specs.Lines.{ended}
use Rattle.prog_scripts.specs.Output.{after_command, guess_line, refusal_by, with_job, written_by}
use Rattle.roll_cli.specs.Playings.{Played, game_of}
use Rattle.roll_cli.proofs.Asked.{asked_events, asked_guess}
use Rattle.roll_cli.proofs.playing.Playing.play.Goals as goal

pub returns-in-Some-clause-played : goal.returns-in-Some-clause-played
returns-in-Some-clause-played g c =
    let old = c.args.self.now in
    let few = subst (λ (v : Played). length v.now.core.players ≤ PLAYER_LIMIT) c.self.view_is (small_of g.G.Game.step _ c.laws.ensures.log).few in
    let events = asked_events g.G.Shown.text_of old.settings (game_of g.G.Game.step old) old.now few c.args.command.now c.in-Some.call (sym c.call.ensures ∙ c.in-Some.is) in
    on_ok_weaker c.answer.result (λ h. h ∙ ap (λ now. record old { now = now }) events.0) c.answer.ensures.played

pub returns-in-Some-clause-written : goal.returns-in-Some-clause-written
returns-in-Some-clause-written g c =
    let old = c.args.self.now in
    let few = subst (λ (v : Played). length v.now.core.players ≤ PLAYER_LIMIT) c.self.view_is (small_of g.G.Game.step _ c.laws.ensures.log).few in
    let events = asked_events g.G.Shown.text_of old.settings (game_of g.G.Game.step old) old.now few c.args.command.now c.in-Some.call (sym c.call.ensures ∙ c.in-Some.is) in
    on_ok_weaker c.answer.result (λ h. h ∙ ap (λ t. c.args.out.now.items ++ t) events.1) c.answer.ensures.written

pub returns-in-Some-clause-refused : goal.returns-in-Some-clause-refused
returns-in-Some-clause-refused g c =
    let old = c.args.self.now in
    let few = subst (λ (v : Played). length v.now.core.players ≤ PLAYER_LIMIT) c.self.view_is (small_of g.G.Game.step _ c.laws.ensures.log).few in
    let events = asked_events g.G.Shown.text_of old.settings (game_of g.G.Game.step old) old.now few c.args.command.now c.in-Some.call (sym c.call.ensures ∙ c.in-Some.is) in
    IfOk-weaker c.answer.result _ _ (λ refused h. h ∙ events.2) c.answer.ensures.refused

pub returns-in-Guess-clause-played : goal.returns-in-Guess-clause-played
returns-in-Guess-clause-played g c =
    let old = c.args.self.now in let game = game_of g.G.Game.step old in let is = c.in-Guess.is in
    let few = subst (λ (v : Played). length v.now.core.players ≤ PLAYER_LIMIT) c.self.view_is (small_of g.G.Game.step _ c.laws.ensures.log).few in
    let e = asked_guess g.G.Shown.text_of old.settings game old.now few c.player_number.result c.in-Guess.player c.deref.result.now c.in-Guess.words.items c.in-Guess.until c.player_number.ensures c.deref.ensures.value in
    on_ok_weaker c.guess.result
    (λ h. h ∙ ap (λ result. record old { now = record old.now { jobs = with_job old.now.jobs result } }) e ∙ sym (ap (λ command. record old { now = after_command old.settings game old.now command }) is))
    c.guess.ensures.played

pub returns-in-Guess-clause-written : goal.returns-in-Guess-clause-written
returns-in-Guess-clause-written g c =
    let old = c.args.self.now in let game = game_of g.G.Game.step old in let is = c.in-Guess.is in
    let few = subst (λ (v : Played). length v.now.core.players ≤ PLAYER_LIMIT) c.self.view_is (small_of g.G.Game.step _ c.laws.ensures.log).few in
    let e = asked_guess g.G.Shown.text_of old.settings game old.now few c.player_number.result c.in-Guess.player c.deref.result.now c.in-Guess.words.items c.in-Guess.until c.player_number.ensures c.deref.ensures.value in
    on_ok_weaker c.guess.result
    (λ h. h ∙ ap (λ result. c.args.out.now.items ++ ended (guess_line (length old.now.jobs) result)) e ∙ sym (ap (λ command. c.args.out.now.items ++ written_by g.G.Shown.text_of old.settings game old.now command) is))
    c.guess.ensures.written

pub returns-in-Guess-clause-refused : goal.returns-in-Guess-clause-refused
returns-in-Guess-clause-refused g c =
    let old = c.args.self.now in let game = game_of g.G.Game.step old in let is = c.in-Guess.is in
    let few = subst (λ (v : Played). length v.now.core.players ≤ PLAYER_LIMIT) c.self.view_is (small_of g.G.Game.step _ c.laws.ensures.log).few in
    let e = asked_guess g.G.Shown.text_of old.settings game old.now few c.player_number.result c.in-Guess.player c.deref.result.now c.in-Guess.words.items c.in-Guess.until c.player_number.ensures c.deref.ensures.value in
    IfOk-weaker c.guess.result _ _ (λ refused h. h ∙ ap result_err e ∙ sym (ap (λ command. refusal_by old.settings game old.now command) is)) c.guess.ensures.refused
