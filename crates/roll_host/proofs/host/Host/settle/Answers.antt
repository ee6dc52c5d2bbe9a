use Rattle.std.proofs.Common.{◌≡◌, ◌+◌, ◌++◌, ◌∙◌, drop, length, map, sym, subst}
use Rattle.std.specs.List.{range_with_len}
use Rattle.roll_pool.specs.Owners.{collected}
use Rattle.roll_pool.specs.Rule.{SameItems}
use Rattle.roll_pool.specs.Settled.{tickets_of, Settles}
use Rattle.roll_host.specs.Hosted.{came_by, issued_of, places_of, withdrawn_of}
use Rattle.roll_host.proofs.host.Host.settle.Goals as goal

pub settle-requires : goal.settle-requires
settle-requires g c = subst (λ pool. map (λ end. end.place) c.args.ends.items ≡ places_of pool) (sym (sym c.in-Some.is ∙ (λ i. (c.self.view_is i).pool))) c.requires

pub returns-in-Some-clause-counts : goal.returns-in-Some-clause-counts
returns-in-Some-clause-counts g c =
    subst (λ pool. (c.settle.result.issued ≡ length (issued_of pool)) × (c.settle.result.collected ≡ length (collected (came_by pool))) × (c.settle.result.withdrawn ≡ length (withdrawn_of pool))) (sym c.in-Some.is ∙ (λ i. (c.self.view_is i).pool)) c.settle.ensures.counts

pub returns-in-Some-clause-jobs : goal.returns-in-Some-clause-jobs
returns-in-Some-clause-jobs g c =
    subst (λ pool. Settles (issued_of pool) (withdrawn_of pool) (collected (came_by pool)) c.settle.result.late.items c.settle.result.left.items) (sym c.in-Some.is ∙ (λ i. (c.self.view_is i).pool)) c.settle.ensures.jobs

pub returns-in-Some-clause-left : goal.returns-in-Some-clause-left
returns-in-Some-clause-left g c =
    subst (λ pool. c.settle.result.left.items ≡ drop (length (collected (came_by pool)) + length (withdrawn_of pool) + length c.settle.result.late.items) (issued_of pool)) (sym c.in-Some.is ∙ (λ i. (c.self.view_is i).pool)) c.settle.ensures.left

pub returns-in-Some-clause-tickets : goal.returns-in-Some-clause-tickets
returns-in-Some-clause-tickets g c =
    subst (λ pool. SameItems (tickets_of (collected (came_by pool) ++ c.settle.result.late.items) (withdrawn_of pool ++ c.settle.result.left.items)) (range_with_len 0 c.settle.result.issued)) (sym c.in-Some.is ∙ (λ i. (c.self.view_is i).pool)) c.settle.ensures.tickets
