use Rattle.std.proofs.Common.{ℕ, Ok, ap, subst, sym, ◌∙◌}
use Rattle.roll_carry.specs.Reading.{parcels_in}
use Rattle.roll_relay.specs.Relaying.{HearsParcels}
use Rattle.roll_relay.specs.declared.heard.Heard.TheVariants.{Carried}
use Rattle.roll_relay.proofs.relay.Relay.receive_parcels.Goals as goal

pub returns-in-Ok-clause-heard : goal.returns-in-Ok-clause-heard
returns-in-Ok-clause-heard g c = (
  ap Carried c.byte_of-sender.ensures,
  (
    parcels_in c.in-Ok.area.now,
    (c.deref.result.now, c.in_ok-text.ensures.text ∙ ap Ok (sym c.deref.ensures.0), c.in-Ok.ensures.says),
    subst (λ (sender : ℕ). HearsParcels g.S.Networked.step c.args.now sender
        (record {
          beside = record { session = g.S.Networked.seen c.args.session.now; peer = c.args.peer.now };
          carrying = c.args.self.now;
        })
        (parcels_in c.in-Ok.area.now)
        (record {
          beside = record { session = g.S.Networked.seen c.hear_parcels.new.session; peer = c.hear_parcels.new.peer };
          carrying = c.hear_parcels.new.self;
        })) c.byte_of-sender.ensures c.hear_parcels.ensures.heard,
  ),
)

pub returns-in-Err-clause-keeps : goal.returns-in-Err-clause-keeps
returns-in-Err-clause-keeps g c = g.S.Networked.keeps_itself c.args.session.now
