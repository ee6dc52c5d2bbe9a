use Rattle.std.proofs.Common.{◌≡◌, ◌∙◌, ap, subst, sym, Ok, Some}
use Rattle.roll_wire.specs.Spelling.{content, turn, Greets, Leaves, Plays}
use Rattle.roll_viewer.specs.Ends.{host_after, ignored_by_host, unheard_by_host, Hosted}
use Rattle.roll_viewer.specs.Lines.{after_bye, after_hello, opened, IsSealedFor}
use Rattle.roll_wire.specs.declared.datagram.Body.{Body}
use Rattle.roll_viewer.specs.declared.line.Line.{Line}
use Rattle.roll_viewer.proofs.Answered.{if_err, on_ok}
use Rattle.roll_viewer.proofs.hosting.ViewerLine.receive.Goals as goal

pub returns-in-Hello-clause-received : goal.returns-in-Hello-clause-received
returns-in-Hello-clause-received c =
    on_ok c.hear_hello.result
    (λ accepted. rw (← c.self.view_is) (record {
      what = Greets c.in-Hello.hello;
      is_opened = c.in_ok-hello.ensures.opened ∙ ap (λ b. Ok (content b)) c.in-Hello.is;
      is_sealed = subst (λ (b : Body). IsSealedFor c.self.inside.line c.args.bytes.now (content b)) c.in-Hello.is c.in_ok-hello.ensures.sealed;
      new_is = ap (λ (line : Line). record { line = line; had = c.self.inside.had; told = c.self.inside.told })
          (c.hear_hello.ensures.heard ∙ ap (λ (line : Line). after_hello line c.in-Hello.hello c.args.now) c.in_ok-hello.ensures.same);
    }))
    c.hear_hello.ensures.accepted

pub returns-in-Play-clause-received : goal.returns-in-Play-clause-received
returns-in-Play-clause-received c =
    on_ok c.hear_play.result
    (λ heard. rw (← c.self.view_is) (record {
      what = Plays (turn c.in-Play.play);
      is_opened = c.in_ok-hello.ensures.opened ∙ ap (λ b. Ok (content b)) c.in-Play.is;
      is_sealed = subst (λ (b : Body). IsSealedFor c.self.inside.line c.args.bytes.now (content b)) c.in-Play.is c.in_ok-hello.ensures.sealed;
      new_is = heard ∙ ap (λ (line : Line). host_after (record { line = line; had = c.self.inside.had; told = c.self.inside.told }) c.args.now (Plays (turn c.in-Play.play)))
          c.in_ok-hello.ensures.same;
    }))
    c.hear_play.ensures.heard

pub returns-in-Play-clause-ignored : goal.returns-in-Play-clause-ignored
returns-in-Play-clause-ignored c = rw (← c.self.view_is) (
    if_err
    (λ why. unheard_by_host (record { line = c.open.new.self; had = c.self.inside.had; told = c.self.inside.told }) (Plays (turn c.in-Play.play)) ≡ Some why)
    (λ why. ignored_by_host (record { line = c.self.inside.line; had = c.self.inside.had; told = c.self.inside.told }) (opened c.self.inside.line 255 c.args.bytes.now) ≡ Some why)
    c.hear_play.result
    (λ why refused.
    ap (ignored_by_host (record { line = c.self.inside.line; had = c.self.inside.had; told = c.self.inside.told }))
    (c.in_ok-hello.ensures.opened ∙ ap (λ b. Ok (content b)) c.in-Play.is)
    ∙ ap (λ (line : Line). unheard_by_host (record { line = line; had = c.self.inside.had; told = c.self.inside.told }) (Plays (turn c.in-Play.play))) (sym c.in_ok-hello.ensures.same)
    ∙ refused)
    c.hear_play.ensures.refused
    )

pub returns-in-Play-clause-accepted : goal.returns-in-Play-clause-accepted
returns-in-Play-clause-accepted c =
    let before : Line → Hosted = λ line. record { line = line; had = c.self.inside.had; told = c.self.inside.told } in
    rw (← c.self.view_is) (
    on_ok c.hear_play.result
    (λ heard.
    ap (ignored_by_host (before c.self.inside.line)) (c.in_ok-hello.ensures.opened ∙ ap (λ b. Ok (content b)) c.in-Play.is)
    ∙ ap (λ (line : Line). unheard_by_host (before line) (Plays (turn c.in-Play.play))) (sym c.in_ok-hello.ensures.same)
    ∙ heard)
    c.hear_play.ensures.accepted
    )

pub returns-in-Bye-clause-received : goal.returns-in-Bye-clause-received
returns-in-Bye-clause-received c = rw (← c.self.view_is) (record {
  what = Leaves c.in-Bye.why;
  is_opened = c.in_ok-hello.ensures.opened ∙ ap (λ b. Ok (content b)) c.in-Bye.is;
  is_sealed = subst (λ (b : Body). IsSealedFor c.self.inside.line c.args.bytes.now (content b)) c.in-Bye.is c.in_ok-hello.ensures.sealed;
  new_is = ap (λ (line : Line). record { line = line; had = c.self.inside.had; told = c.self.inside.told })
      (c.end.ensures ∙ ap (λ (line : Line). after_bye line) c.in_ok-hello.ensures.same);
})
