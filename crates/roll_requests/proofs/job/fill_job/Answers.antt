use Rattle.std.proofs.Common.{◌∙◌, ap}
use Rattle.std.specs.Prelude.{◌||◌, ◌==◌}
use Rattle.std.proofs.Math.ListN.{length-set}
use Rattle.roll_requests.specs.Slotted.{is_among, is_taken}
use Rattle.roll_requests.proofs.Filling.{filled, or_assoc}
use Rattle.roll_requests.proofs.job.fill_job.Goals as goal

pub fill-requires : goal.fill-requires
fill-requires c = rw c.start.ensures c.requires.start

pub fill_all-requires : goal.fill_all-requires
fill_all-requires c = rw (c.slots.ensures, c.fill.ensures, length-set) c.requires.slots

pub returns-clause-filled : goal.returns-clause-filled
returns-clause-filled c =
    let job = c.args.job.now in
    let before = rw (c.fill.ensures, c.start.ensures, c.slots.ensures) at c.fill_all.ensures.filled in
    λ k.
    before k
    ∙ ap (λ b. b || is_among job.slots k) (filled c.args.slots.now job.start k c.requires.start)
    ∙ or_assoc (is_taken c.args.slots.now k) (job.start == k) (is_among job.slots k)
