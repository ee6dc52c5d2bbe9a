use Rattle.std.proofs.Common.{◌≡◌, ℕ, ◌+◌, ◌-◌, Bool, true, false, subst, arith}
use Rattle.roll_chain.specs.Again.{calls_from, frame_calls, ArePlayed}
use Rattle.roll_chain.proofs.Frames.{frame_small}
use Rattle.roll_chain.proofs.Played.{calls_stopped, more_calls, no_calls_from}
use Rattle.roll_chain.proofs.again.Again.play.Goals as goal

pub loop-frame-init : goal.loop-frame-init
loop-frame-init g c =
    let i = c.args.self.now in
    no_calls_from g.S.Plays.makes g.S.Plays.declines i.terms.now i.me (g.P.Networked.seen i.past.now) c.args.end c.args.session.now

pub run-requires : goal.run-requires
run-requires g c =
    omega (arith, c.loop-frame-test.true, c.saturating_sub-frames.ensures, c.frame.ensures, frame_small g.P.Networked.step (g.P.Networked.seen c.args.self.now.past.now) c.laws.ensures)

pub returns-then-not-run : goal.returns-then-not-run
returns-then-not-run g c =
    let i = c.args.self.now in
    let n = c.loop-frame.frame in
    let far : ℕ = (g.P.Networked.seen i.past.now).core.frame - c.args.end in
    let ran : ArePlayed g.S.Plays.makes g.S.Plays.declines c.loop-frame.session (frame_calls i.terms.now i.me (g.P.Networked.seen i.past.now) (c.args.end + n)) c.run.new.session false =
    subst (λ (b : Bool). ArePlayed g.S.Plays.makes g.S.Plays.declines c.loop-frame.session (frame_calls i.terms.now i.me (g.P.Networked.seen i.past.now) (c.args.end + n)) c.run.new.session b) c.if-not-run.true c.run.ensures in
    let all : (n + 1) + (far - (n + 1)) ≡ far =
    omega (arith, c.loop-frame-test.true, c.saturating_sub-frames.ensures, c.frame.ensures) in
    let stopped = more_calls g.S.Plays.makes g.S.Plays.declines i.terms.now i.me (g.P.Networked.seen i.past.now) c.args.end n c.args.session.now c.loop-frame.session c.run.new.session false c.loop-frame.invariant ran in
    subst (λ (m : ℕ). ArePlayed g.S.Plays.makes g.S.Plays.declines c.args.session.now (calls_from i.terms.now i.me (g.P.Networked.seen i.past.now) c.args.end m) c.run.new.session false) all
    (calls_stopped g.S.Plays.makes g.S.Plays.declines i.terms.now i.me (g.P.Networked.seen i.past.now) c.args.end (n + 1) (far - (n + 1)) c.args.session.now c.run.new.session stopped)

pub loop-frame-preserved : goal.loop-frame-preserved
loop-frame-preserved g c =
    let i = c.args.self.now in
    let n = c.loop-frame.frame in
    let ran : ArePlayed g.S.Plays.makes g.S.Plays.declines c.loop-frame.session (frame_calls i.terms.now i.me (g.P.Networked.seen i.past.now) (c.args.end + n)) c.run.new.session true =
    subst (λ (b : Bool). ArePlayed g.S.Plays.makes g.S.Plays.declines c.loop-frame.session (frame_calls i.terms.now i.me (g.P.Networked.seen i.past.now) (c.args.end + n)) c.run.new.session b) c.if-not-run.false c.run.ensures in
    more_calls g.S.Plays.makes g.S.Plays.declines i.terms.now i.me (g.P.Networked.seen i.past.now) c.args.end n c.args.session.now c.loop-frame.session c.run.new.session true c.loop-frame.invariant ran

pub returns : goal.returns
returns g c =
    let i = c.args.self.now in
    let all : c.loop-frame.frame ≡ (g.P.Networked.seen i.past.now).core.frame - c.args.end =
    omega (arith, c.loop-frame-test.false, c.loop-frame.auto.frame-end, c.saturating_sub-frames.ensures, c.frame.ensures) in
    subst (λ (m : ℕ). ArePlayed g.S.Plays.makes g.S.Plays.declines c.args.session.now (calls_from i.terms.now i.me (g.P.Networked.seen i.past.now) c.args.end m) c.loop-frame.session true) all
    c.loop-frame.invariant
