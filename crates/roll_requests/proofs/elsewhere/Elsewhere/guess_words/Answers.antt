use Rattle.std.proofs.Common.{◌≡◌, ◌∙◌, ℕ, None, Option, Some, ap, length, subst, sym}
use Rattle.std.specs.Prelude.{option_map, IsSomeAnd}
use Rattle.roll_branch.specs.Routed.{Routed}
use Rattle.roll_frame.specs.declared.route.Route.{Route}
use Rattle.roll_frame.specs.Timeline.{timeline}
use Rattle.roll_inputs.specs.Boards.{Inputs}
use Rattle.roll_inputs.specs.Foretold.{foretold}
use Rattle.roll_session.specs.Foretold.{guess_words_refusal_of, words_job_of}
use Rattle.roll_session.specs.Gameless.{bare_branch, still}
use Rattle.roll_session.specs.Seen.{game_of}
use Rattle.roll_tree.specs.SavedStates.{Saved, state_named}
use Rattle.roll_requests.specs.Asked.{rows_to_run, Asked, IsNotGuessed, IsNumbered}
use Rattle.roll_requests.specs.Requests.{Adds}
use Rattle.roll_requests.proofs.Declining.{passed_on}
use Rattle.roll_requests.proofs.Numbering.{base_of, no_room, none_adds, none_numbered}
use Rattle.roll_requests.proofs.elsewhere.Elsewhere.guess_words.Goals as goal

-- there is nothing to run
none_of : (c : goal.In_default-2) → None ≡ words_job_of still c.self.inside.core.seen c.args.words.now c.args.until
none_of c =
    ap (option_map (λ (s : ℕ × Route). bare_branch 0 s.1)) (sym c.in_default-2.is) ∙ c.in_ok-node.ensures.job

pub returns-in_default-2-clause-job : goal.returns-in_default-2-clause-job
returns-in_default-2-clause-job c =
    let i = c.self.inside in
    let here : Asked = record { seen = i.core.seen; saves = i.core.saves; at = i.at; requests = i.queue.requests; limit = i.limit; jobs = i.jobs; taken = i.taken } in
    subst (λ (a : Asked). IsNumbered (words_job_of still a.seen c.args.words.now c.args.until) a a None) c.self.view_is
    (none_numbered (words_job_of still i.core.seen c.args.words.now c.args.until) (none_of c) here)

pub returns-in_default-2-clause-adds : goal.returns-in_default-2-clause-adds
returns-in_default-2-clause-adds c =
    let i = c.self.inside in
    subst (λ (a : Asked). Adds a.limit 0 (rows_to_run (words_job_of still a.seen c.args.words.now c.args.until)) a.jobs a.requests a.requests) c.self.view_is
    (none_adds (words_job_of still i.core.seen c.args.words.now c.args.until) (none_of c) i.limit i.jobs i.queue.requests)

pub returns-in_default-2-clause-accepted : goal.returns-in_default-2-clause-accepted
returns-in_default-2-clause-accepted c =
    subst (λ (a : Asked). guess_words_refusal_of a.seen c.args.words.now c.args.until ≡ None) c.self.view_is c.in_ok-node.ensures.accepted

pub make_job-requires-clause-next : goal.make_job-requires-clause-next
make_job-requires-clause-next c = c.in-Some.ensures.next ∙ ap (λ (a : Asked). a.jobs.vacant_key) c.self.view_is

pub make_job-requires-clause-node : goal.make_job-requires-clause-node
make_job-requires-clause-node c =
    subst (λ (a : Asked). IsSomeAnd (state_named a.saves.tree c.in-Some-2.node) (λ (u : Saved ℕ). u.path ≡ c.in-Some-2.route.path.rows.items)) c.self.view_is
    (rw c.in-Some-2.is at c.in_ok-node.ensures.node)

pub make_job-requires-clause-base : goal.make_job-requires-clause-base
make_job-requires-clause-base c =
    let seen = c.self.inside.core.seen in
    let job : Some (bare_branch 0 c.in-Some-2.route) ≡ words_job_of still seen c.args.words.now c.args.until = ap (option_map (λ (s : ℕ × Route). bare_branch 0 s.1)) (sym c.in-Some-2.is) ∙ c.in_ok-node.ensures.job in
    base_of (game_of still seen) seen.core (timeline (foretold seen.core.players c.args.words.now) c.args.until) c.in-Some-2.route job
    ∙ sym (ap (λ (n : Inputs). n.settled) c.laws.ensures.inputs) ∙ ap (λ (a : Asked). a.saves.inputs.settled) c.self.view_is

-- the job is the guess's
job_of : (c : goal.In_ok-make_job) → Some (bare_branch 0 c.in-Some-2.route) ≡ words_job_of still c.args.self.now.seen c.args.words.now c.args.until
job_of c =
    ap (option_map (λ (s : ℕ × Route). bare_branch 0 s.1)) (sym c.in-Some-2.is) ∙ c.in_ok-node.ensures.job
    ∙ ap (λ (a : Asked). words_job_of still a.seen c.args.words.now c.args.until) c.self.view_is

pub returns-clause-job : goal.returns-clause-job
returns-clause-job c =
    subst (λ (job : Option Routed). IsNumbered job c.args.self.now c.make_job.new.self (Some c.in-Some.number)) (job_of c) c.in_ok-make_job.ensures.job

pub returns-clause-adds : goal.returns-clause-adds
returns-clause-adds c =
    let old = c.args.self.now in
    subst (λ (job : Option Routed). Adds old.limit 0 (rows_to_run job) old.jobs old.requests c.make_job.new.self.requests) (job_of c) c.in_ok-make_job.ensures.adds

pub returns-clause-accepted : goal.returns-clause-accepted
returns-clause-accepted c =
    subst (λ (a : Asked). guess_words_refusal_of a.seen c.args.words.now c.args.until ≡ None) c.self.view_is c.in_ok-node.ensures.accepted

pub returns-in_err-make_job-clause-declined : goal.returns-in_err-make_job-clause-declined
returns-in_err-make_job-clause-declined c =
    let now = c.args.self.now in
    let route : Route = c.in-Some-2.route in
    let refusal = guess_words_refusal_of now.seen c.args.words.now c.args.until in
    let job : Option Routed = words_job_of still now.seen c.args.words.now c.args.until in
    let fine : refusal ≡ None = subst (λ (a : Asked). guess_words_refusal_of a.seen c.args.words.now c.args.until ≡ None) c.self.view_is c.in_ok-node.ensures.accepted in
    let is_job : Some (bare_branch 0 route) ≡ job = ap (option_map (λ (s : ℕ × Route). bare_branch 0 s.1)) (sym c.in-Some-2.is) ∙ c.in_ok-node.ensures.job ∙ ap (λ (a : Asked). words_job_of still a.seen c.args.words.now c.args.until) c.self.view_is in
    passed_on c.from_residual-in_err-make_job.result c.in_err-make_job.field-0.0 (IsNotGuessed refusal job now) c.from_residual-in_err-make_job.ensures.1
    (no_room refusal job now (length route.rows.items) c.in_err-make_job.field-0.0 fine (ap (λ (o : Option Routed). rows_to_run o) is_job) c.in_err-make_job.ensures.short)
