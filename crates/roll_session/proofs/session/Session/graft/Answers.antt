use Rattle.std.proofs.Common.{◌∙◌, ap, length, sym}
use Rattle.roll_frame.specs.Events.{branch_of}
use Rattle.roll_frame.specs.Grafts.{new_paths}
use Rattle.roll_session.specs.Changes.{after_graft}
use Rattle.roll_session.specs.Seen.{Seen}
use Rattle.roll_session.proofs.Changes.{graft_reserved}
use Rattle.roll_session.proofs.session.Session.graft.Goals as goal

pub returns : goal.returns
returns g c =
    let old : Seen = c.args.self.now in
    let reserved = c.in_ok-reserve_log.ensures.reserved in
    record {
      accepted = sym c.refusal_along.ensures ∙ c.in_default.is;
      grafted = c.take_branch.ensures.added ∙ ap (λ (s : Seen). length (new_paths s.core (branch_of c.args.branch.route))) reserved;
      taken = c.take_branch.ensures.entered ∙ ap (λ (s : Seen). after_graft s c.args.branch) reserved ∙ graft_reserved old c.args.branch;
      refused = tt;
    }
