use Rattle.std.proofs.Common.{◌≡◌, ◌∙◌, ap}
use Rattle.std.proofs.Math.Seq.{map-set_same}
use Rattle.roll_link.specs.Linked.{Linked}
use Rattle.roll_link.specs.Rings.{Ring}
use Rattle.roll_host.specs.Hosted.{rings_of}
use Rattle.roll_host.proofs.host.Host.end_link.Goals as goal

abbrev ring : Linked → Ring
ring l = l.ring

pub returns-clause-rings : goal.returns-clause-rings
returns-clause-rings g c =
    let before = c.index_mut.result.now in
    let kept : c.end.new.self.ring ≡ before.ring = ap ring c.end.ensures.same in
    map-set_same ring c.self.inside.links.items c.args.link c.end.new.self before (kept ∙ ap ring c.index_mut.ensures.value) ∙ ap (λ h. rings_of h.links) c.self.view_is
