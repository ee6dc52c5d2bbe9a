use Rattle.std.proofs.Common.{◌≡◌, ℕ, ◌+◌, ◌-◌, ◌≤◌, true, false, arith, subst}
use Rattle.roll_mesh.specs.declared.limits.TheConstants.{PLAYER_LIMIT}
use Rattle.fazgrond_c.specs.Playing.{words_given, AreGivenIn}
use Rattle.fazgrond_c.proofs.Words.{given_next, given_none, given_stopped}
use Rattle.fazgrond_c.proofs.playing.Inputs.give_all.Goals as goal

pub loop-place-init : goal.loop-place-init
loop-place-init c = λ why.
    given_none c.args.self.now.owners.now c.args.self.now.me c.args.self.now.size c.args.self.now.bytes.now why c.args.session.now

pub loop-place-preserved : goal.loop-place-preserved
loop-place-preserved c = λ why.
    given_next c.args.self.now.owners.now c.args.self.now.me c.args.self.now.size c.args.self.now.bytes.now why c.loop-place.place
    c.args.session.now c.loop-place.session c.give.new.session true (c.loop-place.invariant why) (c.in_default.ensures.given why)

pub returns-in-Err-clause-declined : goal.returns-in-Err-clause-declined
returns-in-Err-clause-declined c =
    let self = c.args.self.now in
    let p = c.loop-place.place in
    let inside : p + 1 ≤ PLAYER_LIMIT = omega (arith, c.loop-place-test.true) in
    let all : (p + 1) + (PLAYER_LIMIT - (p + 1)) ≡ PLAYER_LIMIT = omega (arith, inside) in
    let stopped = given_next self.owners.now self.me self.size self.bytes.now c.in-Err.why p c.args.session.now c.loop-place.session c.give.new.session
    false (c.loop-place.invariant c.in-Err.why) c.in-Err.ensures.declined in
    subst (λ (n : ℕ). AreGivenIn c.args.session.now (words_given self.owners.now self.me self.size self.bytes.now n) c.give.new.session c.in-Err.why false) all
    (given_stopped self.owners.now self.me self.size self.bytes.now c.in-Err.why (p + 1) (PLAYER_LIMIT - (p + 1)) c.args.session.now c.give.new.session stopped)
