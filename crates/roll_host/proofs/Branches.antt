-- An absorb stands for the branches that it grafted.
use Rattle.std.proofs.Common.{◌≡◌, ◌∙◌, List, [], ◌∷◌, ◌++◌, map, Bool, true, false, cond, refl, ap, subst}
use Rattle.roll_branch.specs.Routed.{Routed}
use Rattle.roll_branch.specs.declared.branch.Done.{Done}
use Rattle.roll_branch.specs.declared.branch.Done.TheVariants.{Grown, Refused as HasNone}
use Rattle.roll_frame.specs.Events.{CoreEvent}
use Rattle.roll_host.specs.Absorbs.{events_by, events_of_all, is_memory, Fated, IsAbsorbed}
use Rattle.roll_host.specs.declared.absorb.Absorbed.{Absorbed}
use Rattle.roll_host.specs.declared.absorb.Fate.{Fate}
use Rattle.roll_host.specs.declared.absorb.Fate.TheVariants.{Added, Dropped, Unmade}
use Rattle.roll_session.specs.Answered.{IsPlayed}
use Rattle.roll_session.specs.Calls.{grafting}
use Rattle.roll_session.specs.Seen.{Seen, Step}

both : (xs : List CoreEvent) (more : List CoreEvent) (a b : List Routed) → xs ≡ map grafting a → more ≡ map grafting b → (branches : List Routed) × (xs ++ more ≡ map grafting branches)
both xs more [] b e f = (b, rw e f)
both xs more (r ∷ rs) b e f =
    let rest = both (map grafting rs) more rs b refl f in
    (r ∷ rest.0, ap (λ es. es ++ more) e ∙ ap (λ es. grafting r ∷ es) rest.1)

module _ {G S N : Type 0} where
  -- of each result, at most its branch
  branches_by : (done : Done G S N) (fate : Fate) → (branches : List Routed) × (events_by done fate ≡ map grafting branches)
  branches_by (Grown branch) (Added count) = (branch ∷ [], refl)
  branches_by (Grown branch) (Dropped why) = go (is_memory why)
    where
      go : (b : Bool) → (branches : List Routed) × (cond b [] (grafting branch ∷ []) ≡ map grafting branches)
      go true = ([], refl)
      go false = (branch ∷ [], refl)
  branches_by (Grown branch) Unmade = ([], refl)
  branches_by (HasNone ticket) fate = ([], refl)

  branches_of : (fates : List (Fated G S N)) → (branches : List Routed) × (events_of_all fates ≡ map grafting branches)
  branches_of [] = ([], refl)
  branches_of (f ∷ fs) =
      let one = branches_by f.done f.fate in
      let more = branches_of fs in
      both (events_by f.done f.fate) (events_of_all fs) one.0 more.0 one.1 more.1

  pub absorbed_branches : (step : Step) (old new : Seen) (came later : List (List (Done G S N))) (absorbed : Absorbed) → IsAbsorbed step old came new later absorbed → (branches : List Routed) × IsPlayed step old new (map grafting branches)
  absorbed_branches step old new came later absorbed a =
      let all = branches_of a.fates in
      (all.0, subst (IsPlayed step old new) all.1 a.played)
