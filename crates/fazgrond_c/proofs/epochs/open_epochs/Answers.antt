use Rattle.std.proofs.Common.{◌≡◌, ◌∙◌, ap, subst, true}
use Rattle.roll_chain.specs.Chains.{settings_of}
use Rattle.roll_chain.specs.Sharing.{parted_until, vacant}
use Rattle.roll_chain.specs.declared.chain.Chain.{Chain}
use Rattle.roll_mesh.specs.declared.limits.TheConstants.{MACHINE_LIMIT}
use Rattle.roll_peer.specs.Peered.{IsOpenedAs, IsWhyNot}
use Rattle.roll_peer.specs.Settings.{has_numbers}
use Rattle.roll_peer.specs.declared.settings.MatchSettings.{MatchSettings}
use Rattle.fazgrond_c.proofs.epochs.open_epochs.Goals as goal

pub returns-in-Ok-clause-opened : goal.returns-in-Ok-clause-opened
returns-in-Ok-clause-opened c = record {
  first = c.in-Ok.peer;
  opened = subst (λ (x : MatchSettings). IsOpenedAs c.args.live.now.session.seen x c.in-Ok.peer)
      (c.settings.ensures ∙ ap settings_of c.chain_beside-chain.ensures) c.in-Ok.ensures.opened;
  tied = c.in-Ok.ensures.tied;
  without = c.leave_out.ensures
      ∙ ap (λ (x : Chain). parted_until (vacant x.terms) MACHINE_LIMIT c.in-Ok.peer) c.chain_beside-chain.ensures;
}

pub returns-in-Ok-clause-numbered : goal.returns-in-Ok-clause-numbered
returns-in-Ok-clause-numbered c =
    subst (λ (x : MatchSettings). has_numbers x ≡ true)
    (c.settings.ensures ∙ ap settings_of c.chain_beside-chain.ensures) c.in-Ok.ensures.numbered

pub returns-in-Err-clause-refused : goal.returns-in-Err-clause-refused
returns-in-Err-clause-refused c =
    subst (λ (x : MatchSettings). IsWhyNot c.args.live.now.session.seen x c.in-Err.why)
    (c.settings.ensures ∙ ap settings_of c.chain_beside-chain.ensures) c.in-Err.ensures.refused
