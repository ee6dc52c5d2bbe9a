use Rattle.std.proofs.Common.{◌≡◌, ◌∙◌, ℕ, List, length, ap, sym, subst, arith, None, Some}
use Rattle.std.specs.Prelude.{slice_index}
use Rattle.roll_mesh.proofs.Changes.{none_some}
use Rattle.roll_mesh.proofs.Trimmed.{trimmed_refusal}
use Rattle.roll_mesh.specs.Groups.{AreAlike}
use Rattle.roll_mesh.specs.Machines.{hear, trimmed}
use Rattle.roll_mesh.specs.Meshes.{heard_as, hear_refusal, stepped, Seated}
use Rattle.roll_mesh.specs.declared.limits.TheConstants.{PLAYER_LIMIT}
use Rattle.roll_mesh.specs.declared.packet.Packet.{Packet}
use Rattle.roll_mesh.specs.declared.refusal.MeshRefusal.{MeshRefusal}
use Rattle.roll_mesh.specs.Words.{hear_words}
use Rattle.roll_member.specs.Beside.{Membership}
use Rattle.roll_member.specs.Joined.{held, IsBehind, IsTied}
use Rattle.roll_member.specs.Taking.{shares, words_heard}
use Rattle.roll_member.proofs.Behind.{behind_stays}
use Rattle.roll_member.proofs.Beside.{tied_steady}
use Rattle.roll_member.proofs.Fair.{fair_of, heard_all}
use Rattle.roll_member.proofs.Tied.{same_heard, up_to_at}
use Rattle.roll_member.proofs.member.Member.hear.Goals as goal

pub take_all-refusal-requires-clause-up : goal.take_all-refusal-requires-clause-up
take_all-refusal-requires-clause-up g c = λ p lt.
    rw (c.up_to-most.ensures, c.has.ensures)
    (omega (arith, up_to_at c.self.inside.mesh.seat c.self.inside.mesh.machine c.args.end c.counts_after.result p lt))

pub take_all-refusal-requires-clause-fair : goal.take_all-refusal-requires-clause-fair
take_all-refusal-requires-clause-fair g c =
    let s = g.S.Networked.seen c.args.session.now in
    let tied = subst (λ (m : Membership). IsTied s m.mesh) (sym c.self.view_is) c.requires in
    rw (c.words_heard-words.ensures, c.seat.ensures, c.has.ensures, c.up_to-most.ensures, c.counts_after.ensures.taken)
    (fair_of s c.self.inside.mesh c.args.packet.now c.args.words.now c.args.end tied
    (sym c.hear_refusal.ensures ∙ c.in_default.is))

pub invariant_of-self : goal.invariant_of-self
invariant_of-self g c =
    let s = g.S.Networked.seen c.args.session.now in
    let new = g.S.Networked.seen c.take_all-refusal.new.session in
    let mesh = c.self.inside.mesh in
    let packet = c.args.packet.now in
    let reached = c.counts-reached.result in
    let b : length reached ≡ PLAYER_LIMIT = omega arith in
    let takes = rw (c.words_heard-words.ensures, c.seat.ensures, c.has.ensures, c.up_to-most.ensures, c.counts_after.ensures.taken) at c.take_all-refusal.ensures.took in
    let counts = rw c.seat.ensures at c.counts-reached.ensures in
    let step = heard_all g.S.Networked.step s new mesh packet c.args.words.now c.args.end c.take_all-refusal.result reached
    takes.0 (subst (λ (m : Membership). IsTied s m.mesh) (sym c.self.view_is) c.requires)
    (sym c.hear_refusal.ensures ∙ c.in_default.is) b takes.1 counts in
    tied_steady new c.hear.new.self
    (subst (λ m. IsTied new m)
    (sym (c.in-Ok.ensures.taken ∙ ap (λ p. stepped (λ seat machine. hear seat p machine) mesh) c.trimmed.ensures))
    step.tied)

pub returns-clause-tied : goal.returns-clause-tied
returns-clause-tied g c =
    let s = g.S.Networked.seen c.args.session.now in
    let new = g.S.Networked.seen c.take_all-refusal.new.session in
    let mesh = c.self.inside.mesh in
    let packet = c.args.packet.now in
    let reached = c.counts-reached.result in
    let b : length reached ≡ PLAYER_LIMIT = omega arith in
    let takes = rw (c.words_heard-words.ensures, c.seat.ensures, c.has.ensures, c.up_to-most.ensures, c.counts_after.ensures.taken) at c.take_all-refusal.ensures.took in
    let counts = rw c.seat.ensures at c.counts-reached.ensures in
    let step = heard_all g.S.Networked.step s new mesh packet c.args.words.now c.args.end c.take_all-refusal.result reached
    takes.0 (subst (λ (m : Membership). IsTied s m.mesh) (sym c.self.view_is) c.requires)
    (sym c.hear_refusal.ensures ∙ c.in_default.is) b takes.1 counts in
    subst (λ m. IsTied new m)
    (sym (c.in-Ok.ensures.taken ∙ ap (λ p. stepped (λ seat machine. hear seat p machine) mesh) c.trimmed.ensures))
    step.tied

pub returns-clause-taken : goal.returns-clause-taken
returns-clause-taken g c =
    let s = g.S.Networked.seen c.args.session.now in
    let new = g.S.Networked.seen c.take_all-refusal.new.session in
    let mesh = c.self.inside.mesh in
    let packet = c.args.packet.now in
    let words : List ℕ = words_heard mesh.seat.words packet.offers c.args.words.now in
    let reached = c.counts-reached.result in
    let b : length reached ≡ PLAYER_LIMIT = omega arith in
    let takes = rw (c.words_heard-words.ensures, c.seat.ensures, c.has.ensures, c.up_to-most.ensures, c.counts_after.ensures.taken) at c.take_all-refusal.ensures.took in
    let fine = (sym c.hear_refusal.ensures ∙ c.in_default.is) in
    let tied : IsTied s mesh = subst (λ (m : Membership). IsTied s m.mesh) (sym c.self.view_is) c.requires in
    let told = rw (c.words_heard-words.ensures, c.seat.ensures, c.has.ensures, c.up_to-most.ensures, c.counts_after.ensures.heard fine) at c.take_all-refusal.ensures.took in
    let counts = rw c.seat.ensures at c.counts-reached.ensures in
    let step = heard_all g.S.Networked.step s new mesh packet c.args.words.now c.args.end c.take_all-refusal.result reached
    takes.0 tied fine b takes.1 counts in
    let became = c.in-Ok.ensures.taken ∙ ap (λ p. stepped (λ seat machine. hear seat p machine) mesh) c.trimmed.ensures in
    let has = ap (λ (m : Seated). m.machine.has) became ∙ step.has in
    rw (← c.self.view_is) (record {
      led = told.0;
      session = told.1;
      mesh = became ∙ ap (λ ns. stepped (λ seat machine. hear seat (trimmed ns packet) machine) mesh) (sym has);
      heard = c.in-Ok.ensures.heard ∙ ap (λ p. heard_as mesh p) c.trimmed.ensures ∙ same_heard mesh reached packet;
      behind = λ b. subst (λ (m : Seated). IsBehind (record { session = new; mesh = m }) c.args.end) (sym became)
          (behind_stays g.S.Networked.step s new mesh packet (shares packet.offers words) c.args.end c.take_all-refusal.result
          reached tied step b);
      step_is = ap (λ (m : Seated). held (record { session = new; mesh = m })) became
          ∙ step.held_is
          ∙ ap (λ ns. hear_words mesh.seat ns (record { packet = packet; words = shares packet.offers words })
          (held (record { session = s; mesh = mesh }))) (sym has);
    })

-- a packet that isn't refused isn't once it is trimmed
never : (mesh : Seated) (packet heard : Packet) (reached : List ℕ) (why : MeshRefusal)
    → AreAlike mesh.seat.words (slice_index reached)
    → hear_refusal mesh packet ≡ None → heard ≡ trimmed reached packet
    → hear_refusal mesh heard ≡ Some why → ⊥
never mesh packet heard reached why alike fine is refused =
    none_some why (sym (ap (λ p. hear_refusal mesh p) is ∙ trimmed_refusal mesh reached packet alike fine)
    ∙ refused)

pub unreachable-requires : goal.unreachable-requires
unreachable-requires g c =
    let s = g.S.Networked.seen c.args.session.now in
    let new = g.S.Networked.seen c.take_all-refusal.new.session in
    let mesh = c.self.inside.mesh in
    let packet = c.args.packet.now in
    let reached = c.counts-reached.result in
    let b : length reached ≡ PLAYER_LIMIT = omega arith in
    let takes = rw (c.words_heard-words.ensures, c.seat.ensures, c.has.ensures, c.up_to-most.ensures, c.counts_after.ensures.taken) at c.take_all-refusal.ensures.took in
    let counts = rw c.seat.ensures at c.counts-reached.ensures in
    let fine = (sym c.hear_refusal.ensures ∙ c.in_default.is) in
    let step = heard_all g.S.Networked.step s new mesh packet c.args.words.now c.args.end c.take_all-refusal.result reached
    takes.0 (subst (λ (m : Membership). IsTied s m.mesh) (sym c.self.view_is) c.requires) fine b takes.1 counts in
    never mesh packet c.trimmed.result reached _ step.alike fine c.trimmed.ensures c.in-Err.ensures.refused
