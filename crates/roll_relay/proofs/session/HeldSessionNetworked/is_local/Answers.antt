use Rattle.std.proofs.Common.{◌∙◌, refl, sym}
use Rattle.roll_frame.specs.Timeline.{Player}
use Rattle.roll_relay.proofs.Seeing.{test_told}
use Rattle.roll_relay.proofs.session.HeldSessionNetworked.is_local.Goals as goal

pub returns : goal.returns
returns g c =
    let s = g.S.Networked.seen c.args.self.now.session.now in
    let words = c.args.self.now.held.now.words.items in
    c.is_local.ensures ∙ sym (test_told s words c.args.player (λ (player : Player). player.local) (λ x. refl))
