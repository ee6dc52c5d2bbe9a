use Rattle.std.proofs.Common.{◌≡◌, ◌⊎◌, inl, inr, ℕ, ◌<◌, ◌≤◌, List, Bool, length, true, false, arith, sym, subst, ◌∙◌}
use Rattle.std.proofs.lemmas.Bool.{cases_lt, false≢true}
use Rattle.roll_mesh.specs.Machines.{at_places, is_in}
use Rattle.std.proofs.lemmas.List.{length-replicate}
use Rattle.roll_peer.specs.Sending.{can_carry}
use Rattle.roll_relay.specs.Relaying.{nobody}
use Rattle.roll_mesh.specs.declared.limits.TheConstants.{MACHINE_LIMIT}
use Rattle.roll_mesh.proofs.Places.{at_place, filled, past_places}
use Rattle.roll_relay.proofs.relay.ready_of.Goals as goal

pub returns-clause-ready : goal.returns-clause-ready
returns-clause-ready c = filled (can_carry c.args.peer.now) nobody c.loop-machine.ready false
    (c.loop-machine.invariant.0 ∙ sym (length-replicate MACHINE_LIMIT false))
    (λ m h. c.loop-machine.invariant.1 m (omega (arith, h, length-replicate MACHINE_LIMIT false)))

pub returns-clause-each : goal.returns-clause-each
returns-clause-each c = λ m h. go m (cases_lt m (length nobody)) (subst (λ (set : List Bool). is_in set m ≡ true) (returns-clause-ready c) h)
  where
    go : (m : ℕ) → (m < length nobody) ⊎ (length nobody ≤ m)
        → is_in (at_places (can_carry c.args.peer.now) nobody) m ≡ true → can_carry c.args.peer.now m ≡ true
    go m (inl l) h = sym (at_place (can_carry c.args.peer.now) nobody m false l) ∙ h
    go m (inr g) h = absurd (false≢true (sym (past_places (can_carry c.args.peer.now) nobody m false g) ∙ h))
