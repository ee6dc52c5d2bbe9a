use Rattle.std.proofs.Common.{◌≡◌, ℕ, ◌+◌, ◌-◌, ◌≤◌, Bool, true, false, subst, arith}
use Rattle.roll_mesh.specs.declared.limits.TheConstants.{PLAYER_LIMIT}
use Rattle.roll_chain.specs.Again.{word_of, words_until, ArePlayed}
use Rattle.roll_chain.proofs.Played.{more_words, no_words, words_stopped}
use Rattle.roll_chain.proofs.again.Again.give_all.Goals as goal

pub loop-place-init : goal.loop-place-init
loop-place-init g c = no_words g.S.Plays.makes g.S.Plays.declines c.args.self.now.terms.now c.args.self.now.me (g.P.Networked.seen c.args.self.now.past.now) c.args.frame c.args.session.now

pub returns-then-not-give : goal.returns-then-not-give
returns-then-not-give g c =
    let i = c.args.self.now in
    let p = c.loop-place.place in
    let inside : p + 1 ≤ PLAYER_LIMIT = omega (arith, c.loop-place-test.true) in
    let all : (p + 1) + (PLAYER_LIMIT - (p + 1)) ≡ PLAYER_LIMIT = omega (arith, inside) in
    let gave : ArePlayed g.S.Plays.makes g.S.Plays.declines c.loop-place.session (word_of i.terms.now i.me (g.P.Networked.seen i.past.now) c.args.frame p) c.give.new.session false =
    subst (λ (b : Bool). ArePlayed g.S.Plays.makes g.S.Plays.declines c.loop-place.session (word_of i.terms.now i.me (g.P.Networked.seen i.past.now) c.args.frame p) c.give.new.session b) c.if-not-give.true c.give.ensures in
    let stopped = more_words g.S.Plays.makes g.S.Plays.declines i.terms.now i.me (g.P.Networked.seen i.past.now) c.args.frame p c.args.session.now c.loop-place.session c.give.new.session false c.loop-place.invariant gave in
    subst (λ (n : ℕ). ArePlayed g.S.Plays.makes g.S.Plays.declines c.args.session.now (words_until i.terms.now i.me (g.P.Networked.seen i.past.now) c.args.frame n) c.give.new.session false) all
    (words_stopped g.S.Plays.makes g.S.Plays.declines i.terms.now i.me (g.P.Networked.seen i.past.now) c.args.frame (p + 1) (PLAYER_LIMIT - (p + 1)) c.args.session.now c.give.new.session stopped)

pub loop-place-preserved : goal.loop-place-preserved
loop-place-preserved g c =
    let i = c.args.self.now in
    let p = c.loop-place.place in
    let gave : ArePlayed g.S.Plays.makes g.S.Plays.declines c.loop-place.session (word_of i.terms.now i.me (g.P.Networked.seen i.past.now) c.args.frame p) c.give.new.session true =
    subst (λ (b : Bool). ArePlayed g.S.Plays.makes g.S.Plays.declines c.loop-place.session (word_of i.terms.now i.me (g.P.Networked.seen i.past.now) c.args.frame p) c.give.new.session b) c.if-not-give.false c.give.ensures in
    more_words g.S.Plays.makes g.S.Plays.declines i.terms.now i.me (g.P.Networked.seen i.past.now) c.args.frame p c.args.session.now c.loop-place.session c.give.new.session true c.loop-place.invariant gave
