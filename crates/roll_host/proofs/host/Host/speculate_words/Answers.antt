use Rattle.std.proofs.Common.{◌∙◌, sym, subst}
use Rattle.roll_session.specs.Foretold.{guess_words_refusal_of, words_job_of}
use Rattle.roll_host.specs.Guesses.{SpeculatesWords}
use Rattle.roll_host.proofs.Speculating.{guess_failed, guess_handed_out, handed_on, host}
use Rattle.roll_host.proofs.host.Host.speculate_words.Goals as goal

pub returns-in_err-job-clause-speculated : goal.returns-in_err-job-clause-speculated
returns-in_err-job-clause-speculated g c =
    let s = c.self.inside.session in
    let links = c.self.inside.links.items in
    let pool = c.in-Some.owner in
    let t = c.guess_words.new.self in
    let e = c.in_err-job.ensures in
    let why = c.in_err-job.field-0.0 in
    let refused = guess_words_refusal_of s c.args.words.now c.args.until in
    let wanted = words_job_of g.G.Game.step s c.args.words.now c.args.until in
    let before = (λ i. record { session = s; links = links; pool = sym c.in-Some.is i }) ∙ c.self.view_is in
    subst (λ o. SpeculatesWords g.G.Game.step o (host refused wanted s t links pool t pool) c.args.words.now c.args.until c.from_residual.result) before
    (handed_on (SpeculatesWords g.G.Game.step (host refused wanted s t links pool s pool) (host refused wanted s t links pool t pool) c.args.words.now c.args.until) c.from_residual.result why c.from_residual.ensures.1
    (guess_failed refused wanted s t links pool e.same why e.refused e.unasked e.asked))

pub returns-clause-speculated : goal.returns-clause-speculated
returns-clause-speculated g c =
    let s = c.self.inside.session in
    let links = c.self.inside.links.items in
    let pool = c.in-Some.owner in
    let t = c.guess_words.new.self in
    let e = c.in_ok-job.ensures in
    let after = c.hand_out.new.owner in
    let refused = guess_words_refusal_of s c.args.words.now c.args.until in
    let wanted = words_job_of g.G.Game.step s c.args.words.now c.args.until in
    let before = (λ i. record { session = s; links = links; pool = sym c.in-Some.is i }) ∙ c.self.view_is in
    subst (λ o. SpeculatesWords g.G.Game.step o (host refused wanted s t links pool t after) c.args.words.now c.args.until c.hand_out.result) before
    (guess_handed_out refused wanted s t links pool e.same e.accepted c.in_ok-job.job e.job e.asked after c.hand_out.result c.hand_out.ensures.handed)
