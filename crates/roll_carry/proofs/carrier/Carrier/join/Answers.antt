use Rattle.std.proofs.Common.{◌≡◌, ◌∙◌, ℕ, true, false, ap, sym, subst}
use Rattle.roll_mesh.specs.Machines.{is_in}
use Rattle.roll_carry.specs.Carrying.{has_company, own_parcel, waiting_for}
use Rattle.roll_carry.proofs.Joining.{joined_is}
use Rattle.roll_carry.proofs.carrier.Carrier.join.Goals as goal

pub returns-clause-joined : goal.returns-clause-joined
returns-clause-joined c =
    let here = c.args.self.now in
    let place : c.from-place.result ≡ c.args.to = c.from-place.ensures in
    c.wait.ensures.waits
    ∙ ap (λ (hop : ℕ). waiting_for here hop (own_parcel c.args.to 0 c.args.tail.now)) place
    ∙ joined_is here c.args.shut.now c.args.to c.args.tail.now
    (subst (λ (hop : ℕ). is_in c.args.shut.now hop ≡ false) place (sym (c.if-is_in.ensures)))
    (subst (λ (hop : ℕ). has_company here c.args.shut.now hop ≡ true) place (sym (c.if-not-has_company.ensures)))
