use Rattle.std.proofs.Common.{◌≡◌, ◌+◌, [], ◌∷◌, ◌++◌, length, drop, ◌∙◌, ap, sym, append_assoc, append-nil, length-append, rules}
use Rattle.std.proofs.Math.Seq.{drop-length}
use Rattle.crossbeam_deque.specs.Handles.{worker_view}
use Rattle.roll_pool.specs.Rule.{taking}
use Rattle.roll_pool.proofs.Settling.{left_more, same_length}
use Rattle.roll_pool.proofs.Moves.{takes_back, finds}
use Rattle.roll_pool.proofs.settle.take_back.Goals as goal

pub pop_as-requires-clause-fifo : goal.pop_as-requires-clause-fifo
pop_as-requires-clause-fifo g c = λ _. takes_back _ _ 1 (ap (λ v. v.owns) c.loop-job.invariant.0 ∙ c.requires.owner.0)

pub pop_as-requires-clause-empty : goal.pop_as-requires-clause-empty
pop_as-requires-clause-empty g c = finds _ _ (ap (λ v. v.owns) c.loop-job.invariant.0 ∙ c.requires.owner.0)

pub loop-job-preserved : goal.loop-job-preserved
loop-job-preserved g c =
    let was = c.loop-job.invariant in
    let v = worker_view c.loop-job.deque in
    let one = c.in-Some.job ∷ [] in
    let told : worker_view c.pop_as.new.self ≡ taking v one = c.in-Some.ensures.rule.0 in
    let pushed : c.push_reserved.new.self.items ≡ c.loop-job.left.items ++ one = c.push_reserved.ensures.items in
    let next = c.in-Some.ensures.rule.1 (ap (λ u. u.others) was.0 ∙ c.requires.owner.1) in
    let issued : v.issued ≡ (worker_view c.args.deque.now).issued = ap (λ u. u.issued) was.0 in
    let more : length (worker_view c.pop_as.new.self).jobs ≡ length v.jobs + 1 = ap (λ u. length u.jobs) told ∙ length-append v.jobs one in (
      told ∙ ap (λ u. taking u one) was.0 ∙ ap (λ l. record (worker_view c.args.deque.now) { jobs = l }) (append_assoc (worker_view c.args.deque.now).jobs c.loop-job.left.items one ∙ ap (λ l. (worker_view c.args.deque.now).jobs ++ l) (sym pushed)),
      search rules,
      search rules,
      left_more c.loop-job.left.items c.push_reserved.new.self.items c.in-Some.job (length v.jobs) _ _ _ next.0 pushed more (ap (drop (length v.jobs)) (sym issued) ∙ next.1) was.3,
    )

pub returns-clause-left : goal.returns-clause-left
returns-clause-left g c =
    let was = c.loop-job.invariant in
    let v = worker_view c.loop-job.deque in
    let issued : v.issued ≡ (worker_view c.args.deque.now).issued = ap (λ u. u.issued) was.0 in
    let all : length v.jobs ≡ length (worker_view c.args.deque.now).issued = same_length _ _ ((c.in_default.ensures.rule).1 (ap (λ u. u.others) was.0 ∙ c.requires.owner.1)) ∙ ap length issued in
    sym (append-nil c.loop-job.left.items) ∙ ap (λ l. c.loop-job.left.items ++ l) (sym (ap (λ n. drop n (worker_view c.args.deque.now).issued) all ∙ drop-length (worker_view c.args.deque.now).issued)) ∙ was.3
