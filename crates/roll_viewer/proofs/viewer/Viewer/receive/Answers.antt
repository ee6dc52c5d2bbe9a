use Rattle.std.proofs.Common.{◌≡◌, ◌∙◌, ap, refl, subst, sym, Ok, Some}
use Rattle.roll_wire.specs.Spelling.{content, turn, Greets, Leaves, Plays}
use Rattle.roll_viewer.specs.Ends.{ignored_by_viewer, unheard_by_viewer, HearsRows, ViewerHears, Viewing}
use Rattle.roll_viewer.specs.Lines.{after_bye, after_hello, opened, IsSealedFor}
use Rattle.roll_wire.specs.declared.datagram.Body.{Body}
use Rattle.roll_viewer.specs.declared.line.Line.{Line}
use Rattle.roll_viewer.proofs.Answered.{if_err, if_ok, on_ok}
use Rattle.roll_viewer.proofs.viewer.Viewer.receive.Goals as goal

pub returns-in_ok-hear_hello-in-Hello-clause-received : goal.returns-in_ok-hear_hello-in-Hello-clause-received
returns-in_ok-hear_hello-in-Hello-clause-received c = rw (← c.self.view_is) (record {
  what = Greets c.in-Hello.hello;
  is_opened = c.in_ok-hello.ensures.opened ∙ ap (λ b. Ok (content b)) c.in-Hello.is;
  is_sealed = subst (λ (b : Body). IsSealedFor c.self.inside.line c.args.bytes.now (content b)) c.in-Hello.is c.in_ok-hello.ensures.sealed;
  hears = (
    ap (λ (line : Line). record { line = line; rows = c.self.inside.rows; settled = c.self.inside.settled })
        (c.in_ok-hear_hello-in-Hello.ensures.heard ∙ ap (λ (line : Line). after_hello line c.in-Hello.hello c.args.now) c.in_ok-hello.ensures.same),
    refl,
  );
})

pub returns-in-Play-clause-received : goal.returns-in-Play-clause-received
returns-in-Play-clause-received c =
    let before : Line → Viewing = λ line. record { line = line; rows = c.self.inside.rows; settled = c.self.inside.settled } in
    if_ok (HearsRows (before c.open.new.self) c.hear_play.new.self c.args.now (turn c.in-Play.play))
    (ViewerHears c.args.self.now c.hear_play.new.self c.args.bytes.now c.args.now)
    c.hear_play.result
    (λ count heard. rw (← c.self.view_is) (record {
      what = Plays (turn c.in-Play.play);
      is_opened = c.in_ok-hello.ensures.opened ∙ ap (λ b. Ok (content b)) c.in-Play.is;
      is_sealed = subst (λ (b : Body). IsSealedFor c.self.inside.line c.args.bytes.now (content b)) c.in-Play.is c.in_ok-hello.ensures.sealed;
      hears = subst (λ (line : Line). HearsRows (before line) c.hear_play.new.self c.args.now (turn c.in-Play.play) count)
          c.in_ok-hello.ensures.same heard;
    }))
    c.hear_play.ensures.heard

pub returns-in-Play-clause-ignored : goal.returns-in-Play-clause-ignored
returns-in-Play-clause-ignored c =
    let before : Line → Viewing = λ line. record { line = line; rows = c.self.inside.rows; settled = c.self.inside.settled } in
    rw (← c.self.view_is) (
    if_err
    (λ why. unheard_by_viewer (before c.open.new.self) (Plays (turn c.in-Play.play)) ≡ Some why)
    (λ why. ignored_by_viewer (before c.self.inside.line) (opened c.self.inside.line c.self.inside.line.settings.host c.args.bytes.now) ≡ Some why)
    c.hear_play.result
    (λ why refused.
    ap (ignored_by_viewer (before c.self.inside.line)) (c.in_ok-hello.ensures.opened ∙ ap (λ b. Ok (content b)) c.in-Play.is)
    ∙ ap (λ (line : Line). unheard_by_viewer (before line) (Plays (turn c.in-Play.play))) (sym c.in_ok-hello.ensures.same)
    ∙ refused)
    c.hear_play.ensures.refused
    )

pub returns-in-Play-clause-accepted : goal.returns-in-Play-clause-accepted
returns-in-Play-clause-accepted c =
    let before : Line → Viewing = λ line. record { line = line; rows = c.self.inside.rows; settled = c.self.inside.settled } in
    rw (← c.self.view_is) (
    on_ok c.hear_play.result
    (λ heard.
    ap (ignored_by_viewer (before c.self.inside.line)) (c.in_ok-hello.ensures.opened ∙ ap (λ b. Ok (content b)) c.in-Play.is)
    ∙ ap (λ (line : Line). unheard_by_viewer (before line) (Plays (turn c.in-Play.play))) (sym c.in_ok-hello.ensures.same)
    ∙ heard)
    c.hear_play.ensures.accepted
    )

pub returns-in-Bye-clause-received : goal.returns-in-Bye-clause-received
returns-in-Bye-clause-received c = rw (← c.self.view_is) (record {
  what = Leaves c.in-Bye.why;
  is_opened = c.in_ok-hello.ensures.opened ∙ ap (λ b. Ok (content b)) c.in-Bye.is;
  is_sealed = subst (λ (b : Body). IsSealedFor c.self.inside.line c.args.bytes.now (content b)) c.in-Bye.is c.in_ok-hello.ensures.sealed;
  hears = (
    ap (λ (line : Line). record { line = line; rows = c.self.inside.rows; settled = c.self.inside.settled })
        (c.end.ensures ∙ ap (λ (line : Line). after_bye line) c.in_ok-hello.ensures.same),
    refl,
  );
})
