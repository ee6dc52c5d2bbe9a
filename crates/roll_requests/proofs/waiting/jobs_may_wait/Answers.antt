use Rattle.roll_requests.proofs.Late.{may_wait}
use Rattle.roll_requests.proofs.waiting.jobs_may_wait.Goals as goal

pub returns : goal.returns
returns c = λ step there job requests. may_wait step there job requests
