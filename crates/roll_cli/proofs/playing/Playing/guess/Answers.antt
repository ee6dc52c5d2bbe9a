use Rattle.std.proofs.Common.{◌∙◌, ◌++◌, ◌≡◌, ap, sym, length, codes, arith, rules, tests, Some, None}
use Rattle.std.specs.Prelude.{Ok, Err}
use Rattle.std.specs.Fmt.{decimal}
use Rattle.roll_frame.specs.declared.route.Route.{Route}
use Rattle.roll_text.specs.Lines.{ended}
use Rattle.roll_cli.proofs.Guessed.{played_of, guess_played, guess_refused, guess_written, was_guessed, was_refused}
use Rattle.roll_cli.proofs.playing.Playing.guess.Goals as goal

pub returns-in_ok-push-in-Ok-Some-clause-played : goal.returns-in_ok-push-in-Ok-Some-clause-played
returns-in_ok-push-in-Ok-Some-clause-played g c =
    let s = c.self.inside.session in let jobs = c.self.inside.jobs.items in let it = c.in-Ok-Some in
    let e = was_guessed g.G.Game.step c.args.self.now s jobs c.self.view_is c.args.player c.args.words.now c.args.until (Some it.job) it.ensures.accepted (sym it.field-0-is ∙ it.ensures.job) in
    ap (λ all. played_of c.guess.new.self all) c.in_ok-push-in-Ok-Some.ensures.items ∙ guess_played g.G.Game.step c.args.self.now s jobs c.self.view_is c.args.player c.args.words.now c.args.until (Ok (Some it.job)) e c.guess.new.self it.ensures.same

pub returns-in_ok-push-in-Ok-Some-clause-written : goal.returns-in_ok-push-in-Ok-Some-clause-written
returns-in_ok-push-in-Ok-Some-clause-written g c =
    let s = c.self.inside.session in let jobs = c.self.inside.jobs.items in let it = c.in-Ok-Some in
    let e = was_guessed g.G.Game.step c.args.self.now s jobs c.self.view_is c.args.player c.args.words.now c.args.until (Some it.job) it.ensures.accepted (sym it.field-0-is ∙ it.ensures.job) in
    let rows : c.len-in-Ok-Some.result ≡ length it.job.route.rows.items = c.len-in-Ok-Some.ensures.value ∙ ap (λ (route : Route). length route.rows.items) c.route.ensures in
    let number : c.len.result ≡ length jobs = omega (arith, c.len.ensures, c.self.inside.jobs.ok) in
    c.in_ok-push_job-in-Ok-Some.ensures
    ∙ (λ i. c.args.out.now.items ++ ended (codes "job " ++ (decimal (number i) ++ (codes " rows " ++ decimal (rows i)))))
    ∙ ap (λ t. c.args.out.now.items ++ ended t) (guess_written g.G.Game.step c.args.self.now s jobs c.self.view_is c.args.player c.args.words.now c.args.until (Ok (Some it.job)) e)

pub returns-in_ok-push-in-Ok-Some-clause-refused : goal.returns-in_ok-push-in-Ok-Some-clause-refused
returns-in_ok-push-in-Ok-Some-clause-refused g c =
    let s = c.self.inside.session in let jobs = c.self.inside.jobs.items in let it = c.in-Ok-Some in
    let e = was_guessed g.G.Game.step c.args.self.now s jobs c.self.view_is c.args.player c.args.words.now c.args.until (Some it.job) it.ensures.accepted (sym it.field-0-is ∙ it.ensures.job) in
    guess_refused g.G.Game.step c.args.self.now s jobs c.self.view_is c.args.player c.args.words.now c.args.until (Ok (Some it.job)) e

pub returns-in_ok-extend_from_slice-in-Ok-None-clause-played : goal.returns-in_ok-extend_from_slice-in-Ok-None-clause-played
returns-in_ok-extend_from_slice-in-Ok-None-clause-played g c =
    let s = c.self.inside.session in let jobs = c.self.inside.jobs.items in let it = c.in-Ok-None in
    let e = was_guessed g.G.Game.step c.args.self.now s jobs c.self.view_is c.args.player c.args.words.now c.args.until None it.ensures.accepted (sym it.field-0-is ∙ it.ensures.job) in
    guess_played g.G.Game.step c.args.self.now s jobs c.self.view_is c.args.player c.args.words.now c.args.until (Ok None) e c.guess.new.self it.ensures.same

pub returns-in_ok-extend_from_slice-in-Ok-None-clause-written : goal.returns-in_ok-extend_from_slice-in-Ok-None-clause-written
returns-in_ok-extend_from_slice-in-Ok-None-clause-written g c =
    let s = c.self.inside.session in let jobs = c.self.inside.jobs.items in let it = c.in-Ok-None in
    let e = was_guessed g.G.Game.step c.args.self.now s jobs c.self.view_is c.args.player c.args.words.now c.args.until None it.ensures.accepted (sym it.field-0-is ∙ it.ensures.job) in
    c.in_ok-extend_from_slice-in-Ok-None.ensures.items
    ∙ ap (λ t. c.args.out.now.items ++ ended t) (guess_written g.G.Game.step c.args.self.now s jobs c.self.view_is c.args.player c.args.words.now c.args.until (Ok None) e)

pub returns-in_ok-extend_from_slice-in-Ok-None-clause-refused : goal.returns-in_ok-extend_from_slice-in-Ok-None-clause-refused
returns-in_ok-extend_from_slice-in-Ok-None-clause-refused g c =
    let s = c.self.inside.session in let jobs = c.self.inside.jobs.items in let it = c.in-Ok-None in
    let e = was_guessed g.G.Game.step c.args.self.now s jobs c.self.view_is c.args.player c.args.words.now c.args.until None it.ensures.accepted (sym it.field-0-is ∙ it.ensures.job) in
    guess_refused g.G.Game.step c.args.self.now s jobs c.self.view_is c.args.player c.args.words.now c.args.until (Ok None) e

pub returns-in_ok-push_reply-in-Err : goal.returns-in_ok-push_reply-in-Err
returns-in_ok-push_reply-in-Err g c =
    let s = c.self.inside.session in let jobs = c.self.inside.jobs.items in let it = c.in-Err in
    let e = was_refused g.G.Game.step c.args.self.now s jobs c.self.view_is c.args.player c.args.words.now c.args.until it.why it.ensures.refused (λ e. search (rules, tests)) in
    record {
      played = guess_played g.G.Game.step c.args.self.now s jobs c.self.view_is c.args.player c.args.words.now c.args.until (Err it.why) e c.guess.new.self it.ensures.same;
      written = c.in_ok-push_reply-in-Err.ensures.written ∙ ap (λ t. c.args.out.now.items ++ ended t) (guess_written g.G.Game.step c.args.self.now s jobs c.self.view_is c.args.player c.args.words.now c.args.until (Err it.why) e);
      refused = guess_refused g.G.Game.step c.args.self.now s jobs c.self.view_is c.args.player c.args.words.now c.args.until (Err it.why) e;
      fault = tt;
    }
