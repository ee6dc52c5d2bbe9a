use Rattle.std.proofs.Common.{◌≡◌, sym, ap, subst, arith}
use Rattle.std.specs.Prelude.{IsSomeAnd}
use Rattle.roll_tree.specs.SavedStates.{SavedStates, state_named}
use Rattle.roll_tree.proofs.Pruning.{settled_to}
use Rattle.roll_tree.proofs.tree.Tree.settle.Goals as goal

pub returns-clause-base : goal.returns-clause-base
returns-clause-base g c =
    let is = settled_to c.args.self.now c.settle_at.new.self c.in-Some.top c.args.to.now.rows.items c.in-Some.ensures.found c.settle_at.ensures in
    omega (arith, ap (λ (k : SavedStates g.row.S.Denot). k.base) is, c.requires.base)

pub returns-clause-root : goal.returns-clause-root
returns-clause-root g c =
    let is = settled_to c.args.self.now c.settle_at.new.self c.in-Some.top c.args.to.now.rows.items c.in-Some.ensures.found c.settle_at.ensures in
    subst (λ n. IsSomeAnd (state_named c.args.self.now n) (λ s. s.path ≡ c.args.to.now.rows.items)) (sym (ap (λ (k : SavedStates g.row.S.Denot). k.root) is)) c.in-Some.ensures.found

pub returns-clause-time : goal.returns-clause-time
returns-clause-time g c =
    let is = settled_to c.args.self.now c.settle_at.new.self c.in-Some.top c.args.to.now.rows.items c.in-Some.ensures.found c.settle_at.ensures in
    ap (λ (k : SavedStates g.row.S.Denot). k.time) is

pub returns-clause-states : goal.returns-clause-states
returns-clause-states g c =
    let is = settled_to c.args.self.now c.settle_at.new.self c.in-Some.top c.args.to.now.rows.items c.in-Some.ensures.found c.settle_at.ensures in
    ap (λ (k : SavedStates g.row.S.Denot). k.states) is
