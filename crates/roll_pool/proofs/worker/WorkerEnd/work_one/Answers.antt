use Rattle.std.proofs.Common.{◌≡◌, [], ◌∷◌, ◌++◌, length, length-append, arith, inr, ap, sym, ◌∙◌, rules}
use Rattle.crossbeam_deque.specs.Handles.{view}
use Rattle.rtrb.specs.Ring.{sent}
use Rattle.roll_branch.specs.Ends.{Ends}
use Rattle.roll_pool.specs.Rule.{taking, working}
use Rattle.roll_pool.proofs.Moves.{takes}
use Rattle.roll_pool.proofs.Zipped.{zip_append}
use Rattle.roll_pool.proofs.worker.WorkerEnd.work_one.Goals as goal

pub steal_as-requires-clause-takes : goal.steal_as-requires-clause-takes
steal_as-requires-clause-takes g c = takes _ _ 1 (inr (ap (λ v. v.out) c.self.invariant.out))

pub invariant_of-self-2 : goal.invariant_of-self-2
invariant_of-self-2 g c =
    let was = c.self.invariant in
    let one = c.in-Success.job ∷ [] in
    let took : view c.steal_as.new.pass ≡ taking (view c.self.inside.pass) one = c.in-Success.ensures.rule in
    let jobs : (view c.steal_as.new.pass).jobs ≡ (view c.self.inside.pass).jobs ++ one = ap (λ v. v.jobs) took in
    let pushed : sent c.push_reserved.new.self ≡ sent c.self.inside.results ++ c.extend.result ∷ [] = search rules in
    record {
      of_deque = search rules;
      out = took ∙ ap (λ v. taking v one) was.out ∙ ap working (sym jobs);
      told = rw (jobs, pushed) (zip_append Ends _ _ _ _ was.told (c.extend.ensures.done, tt));
      room = omega (arith, was.room, c.is_full.ensures.looked, c.push_reserved.ensures.ring, c.push_reserved.ensures.sent, ap length pushed, length-append (sent c.self.inside.results) (c.extend.result ∷ []));
    }
