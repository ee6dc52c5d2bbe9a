use Rattle.std.proofs.Common.{◌≡◌, None, ap, sym, ◌∙◌}
use Rattle.roll_state.specs.Spelling.{part, Part}
use Rattle.roll_state.specs.Taking.{refusal_of, Taking}
use Rattle.roll_state.proofs.Taken.{hears}
use Rattle.roll_state.proofs.taker.Taker.hear.Goals as goal

pub invariant_of-self : goal.invariant_of-self
invariant_of-self c =
    let t : Taking = record {
      name = c.self.inside.name;
      held = c.self.inside.held;
      next = c.self.inside.next;
      only = c.self.inside.only;
      barred = c.self.inside.barred;
    } in
    let p : Part = part c.args.piece.now in
    let e : refusal_of t c.args.host p ≡ None =
    ap (λ (x : Taking). refusal_of x c.args.host p) c.self.view_is ∙ sym c.refusal.ensures
    ∙ c.in_default.is in
    hears t c.args.host p c.take_in-heard.new.held c.self.invariant e c.take_in-heard.ensures.held

pub invariant_of-self-in-None : goal.invariant_of-self-in-None
invariant_of-self-in-None c =
    let t : Taking = record {
      name = c.self.inside.name;
      held = c.self.inside.held;
      next = c.self.inside.next;
      only = c.self.inside.only;
      barred = c.self.inside.barred;
    } in
    let p : Part = part c.args.piece.now in
    let e : refusal_of t c.args.host p ≡ None =
    ap (λ (x : Taking). refusal_of x c.args.host p) c.self.view_is ∙ sym c.refusal.ensures
    ∙ c.in_default.is in
    hears t c.args.host p c.take_in-heard.new.held c.self.invariant e c.take_in-heard.ensures.held

pub invariant_of-self-in_default-heard : goal.invariant_of-self-in_default-heard
invariant_of-self-in_default-heard c =
    let t : Taking = record {
      name = c.self.inside.name;
      held = c.self.inside.held;
      next = c.self.inside.next;
      only = c.self.inside.only;
      barred = c.self.inside.barred;
    } in
    let p : Part = part c.args.piece.now in
    let e : refusal_of t c.args.host p ≡ None =
    ap (λ (x : Taking). refusal_of x c.args.host p) c.self.view_is ∙ sym c.refusal.ensures
    ∙ c.in_default.is in
    hears t c.args.host p c.take_in-heard.new.held c.self.invariant e c.take_in-heard.ensures.held
