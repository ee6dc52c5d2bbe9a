use Rattle.std.proofs.Common.{◌≡◌, ℕ, ◌-◌, not, refl, sym, subst, inl, inr, arith}
use Rattle.std.specs.List.{filter}
use Rattle.roll_tree.specs.SavedStates.{has_other}
use Rattle.roll_tree.specs.declared.tree.Tree.TheInside.{Inside}
use Rattle.std.proofs.lemmas.Bool.{cases_lt}
use Rattle.roll_tree.proofs.States.{base_is}
use Rattle.roll_tree.proofs.Pruning.{cut_tree, cut_view, cut_nobody, cut_beyond}
use Rattle.roll_tree.proofs.tree.Tree.cut.Goals as goal

pub returns-in_default : goal.returns-in_default
returns-in_default g c =
    let nobody : c.args.player ≡ 0 = elim (cases_lt 0 c.args.player) [
      | inl some ↦ absurd (c.in_default.ensures (omega (arith, some, c.from.ensures)))
      | inr none ↦ omega (arith, none)
    ] in
    subst (λ (player : ℕ). c.args.self.now ≡ record c.args.self.now { states = filter (λ s. not (has_other player (c.args.frame - c.args.self.now.base) c.args.cell s.path)) c.args.self.now.states }) (sym nobody)
    (cut_nobody c.args.self.now (c.args.frame - c.args.self.now.base) c.args.cell)

pub invariant_of-self : goal.invariant_of-self
invariant_of-self g c =
    let after : Inside g.row.S.Denot = record { base = c.self.inside.base; root = c.self.inside.root; nodes = c.prune.new.nodes; order = c.prune.new.order; time = c.self.inside.time; tip = c.self.inside.tip } in
    cut_tree c.self.inside c.self.invariant c.args.frame c.args.player c.in-Some.place c.args.cell (omega (arith, base_is c.self.inside c.args.self.now c.self.view_is, c.requires)) (omega (arith, c.from.ensures, c.in-Some.ensures.0, c.in-Some.ensures.1)) after refl refl refl c.prune.ensures.pruned (omega (arith, c.prune.ensures.capacity, c.self.invariant.room)) (omega (arith, c.prune.ensures.space, c.self.invariant.space)) refl

pub returns : goal.returns
returns g c =
    let after : Inside g.row.S.Denot = record { base = c.self.inside.base; root = c.self.inside.root; nodes = c.prune.new.nodes; order = c.prune.new.order; time = c.self.inside.time; tip = c.self.inside.tip } in
    cut_view c.self.inside c.self.invariant c.args.frame c.args.player c.in-Some.place c.args.cell (omega (arith, base_is c.self.inside c.args.self.now c.self.view_is, c.requires)) (omega (arith, c.from.ensures, c.in-Some.ensures.0, c.in-Some.ensures.1)) after refl refl refl c.prune.ensures.pruned c.args.self.now c.self.view_is

pub returns-then-frame-self : goal.returns-then-frame-self
returns-then-frame-self g c = cut_beyond c.self.inside c.self.invariant c.args.frame c.args.player c.args.cell c.args.self.now c.self.view_is (omega (arith, c.if-frame-self.true))
