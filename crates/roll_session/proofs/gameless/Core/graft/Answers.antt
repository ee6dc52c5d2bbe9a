use Rattle.std.proofs.Common.{◌∙◌, ap, length, sym}
use Rattle.roll_frame.specs.Events.{branch_of}
use Rattle.roll_frame.specs.Grafts.{new_paths}
use Rattle.roll_session.specs.Changes.{after_graft, IsRefused}
use Rattle.roll_session.specs.Gameless.{bare_branch, route_refusal_of, Bare}
use Rattle.roll_session.specs.Seen.{Seen}
use Rattle.roll_session.proofs.Bares.{graft_short, handed_on, route_accepted}
use Rattle.roll_session.proofs.Changes.{graft_reserved}
use Rattle.roll_session.proofs.gameless.Core.graft.Goals as goal

pub enter_branch-requires-clause-accepted : goal.enter_branch-requires-clause-accepted
enter_branch-requires-clause-accepted g c =
    rw c.in_ok-reserve_log.ensures.reserved
    (route_accepted c.args.same c.args.self.now c.args.route (rw c.get-along.ensures at (sym c.graft_refusal.ensures ∙ c.in_default.is)))

pub returns : goal.returns
returns g c =
    let old : Seen = c.args.self.now.seen in
    let reserved = ap (λ (s : Bare _). s.seen) c.in_ok-reserve_log.ensures.reserved in
    record {
      accepted = rw c.get-along.ensures at (sym c.graft_refusal.ensures ∙ c.in_default.is);
      grafted = c.enter_branch.ensures.added ∙ ap (λ (s : Seen). length (new_paths s.core (branch_of c.args.route))) reserved;
      taken = c.enter_branch.ensures.entered ∙ ap (λ (s : Seen). after_graft s (bare_branch c.args.ticket c.args.route)) reserved ∙ graft_reserved old (bare_branch c.args.ticket c.args.route);
      keeps = rw c.in_ok-reserve_log.ensures.reserved at c.enter_branch.ensures.keeps;
      branch = rw c.in_ok-reserve_log.ensures.reserved at c.enter_branch.ensures.branch;
      refused = tt;
      unchanged = tt;
    }

pub returns-in_err-reserve_log-clause-refused : goal.returns-in_err-reserve_log-clause-refused
returns-in_err-reserve_log-clause-refused g c =
    let old : Seen = c.args.self.now.seen in
    let r = c.reserve_log.ensures in
    let none = rw c.get-along.ensures at (sym c.graft_refusal.ensures ∙ c.in_default.is) in
    handed_on c.from_residual.result c.in_err-reserve_log.field-0.0 (IsRefused (route_refusal_of c.args.same c.args.self.now c.args.route) old c.reserve_log.new.self.seen) c.from_residual.ensures.1
    (graft_short old c.reserve_log.new.self.seen (bare_branch 0 c.args.route) (route_refusal_of c.args.same c.args.self.now c.args.route) c.in_err-reserve_log.field-0.0 none (route_accepted c.args.same c.args.self.now c.args.route none)
    c.in_err-reserve_log.ensures.refused c.in_err-reserve_log.ensures.short (ap (λ (s : Bare _). s.seen) c.in_err-reserve_log.ensures.unchanged))
