-- Results that are taken in, one after another.
use Rattle.std.proofs.Common.{◌≡◌, ◌∙◌, ℕ, ◌+◌, ◌-◌, ◌≤◌, List, [], ◌∷◌, ◌++◌, length, map, Bool, true, false, cond, refl, ap, sym, subst, arith, append-nil, length-append, inl, inr, Option, None, Some}
use Rattle.std.specs.Prelude.{is_none, nat_le, not, ◌&&◌}
use Rattle.std.specs.Option.{option_map_or}
use Rattle.std.proofs.lemmas.Bool.{ltb-false}
use Rattle.std.proofs.lemmas.Grind.{flat_map-append}
use Rattle.std.proofs.lemmas.List.{map-append}
use Rattle.std.proofs.lemmas.List.Sums.{count_by-le-length, length-filter, sum_by-append}
use Rattle.roll_branch.specs.Routed.{Routed}
use Rattle.roll_branch.specs.declared.branch.Done.{Done}
use Rattle.roll_branch.specs.declared.branch.Done.TheVariants.{Grown, Refused as HasNone}
use Rattle.roll_frame.specs.Cells.{Rows}
use Rattle.roll_frame.specs.Core.{is_possible, kept, settled}
use Rattle.roll_frame.specs.Events.{CoreEvent, branch_of, is_accepted, refusal, tests_of}
use Rattle.roll_frame.specs.Grafts.{anchor_length, new_paths, whole_of}
use Rattle.roll_frame.specs.Paths.{contains, prefixes}
use Rattle.roll_frame.specs.declared.limits.TheConstants.{PATH_LIMIT}
use Rattle.roll_frame.specs.declared.refusal.Refusal.{Refusal}
use Rattle.roll_frame.specs.declared.refusal.Refusal.TheVariants.{LogFull, NoMemory}
use Rattle.roll_frame.specs.declared.reply.Reply.TheVariants.{Grafted, Refused}
use Rattle.roll_frame.proofs.Refused.{AllFail, all_fail}
use Rattle.roll_laws.proofs.Few.{length_prefixes}
use Rattle.roll_pool.specs.Owners.{IsCollected}
use Rattle.roll_session.proofs.Runs.{played_more, played_none}
use Rattle.roll_session.specs.Answered.{IsAnswered, IsPlayed, IsReplied}
use Rattle.roll_session.specs.Calls.{grafting}
use Rattle.roll_session.specs.Seen.{Seen, Step, game_of}
use Rattle.roll_host.specs.Absorbs.{added_by, dropped_by, events_by, events_of_all, is_memory, unmade_by, AreCollected, AreFates, Fated, IsAbsorbed, IsFate}
use Rattle.roll_host.specs.declared.absorb.Absorbed.{Absorbed}
use Rattle.roll_host.specs.declared.absorb.Fate.{Fate}
use Rattle.roll_host.specs.declared.absorb.Fate.TheVariants.{Added, Dropped, Unmade}
use Rattle.roll_host.specs.declared.limits.TheConstants.{TURN_LIMIT}

module _ (step : Step) (old new : Seen) (branch : Routed) where
  -- a graft adds 24 states at most, since it ends no further than that
  pub graft_few : (count : ℕ) → IsReplied step old new (grafting branch) (Grafted count) → count ≤ PATH_LIMIT
  graft_few count r = go (refusal old.settings (game_of step old) old.core (grafting branch)) refl r.said_is
    where
      paths : ℕ
      paths = length (new_paths old.core (branch_of branch.route))

      tests : List (Bool × Refusal)
      tests = tests_of old.settings (game_of step old) old.core branch.from (grafting branch).entry ++ (nat_le old.settings.log old.core.logged, LogFull) ∷ []

      few : AllFail tests → paths ≤ PATH_LIMIT
      few h =
          let far = ltb-false (settled old.core + PATH_LIMIT) (length (whole_of old.core (branch_of branch.route))) h.1.1.0 in
          let whole = whole_of old.core (branch_of branch.route) in
          let from = anchor_length old.core (branch_of branch.route) in
          let new_one : Rows → Bool = λ path. is_possible old.core.players path && not (contains (kept old.core) path) in
          omega (
            arith,
            far,
            length-filter new_one (prefixes whole from (length whole - from)),
            count_by-le-length new_one (prefixes whole from (length whole - from)),
            length_prefixes whole from (length whole - from),
          )

      go : (o : Option Refusal) → refusal old.settings (game_of step old) old.core (grafting branch) ≡ o → Grafted count ≡ option_map_or Refused o (Grafted paths) → count ≤ PATH_LIMIT
      go (Some why) e said = absurd (cc said)
      go None e said = let is : count ≡ paths = cc said in rw is (few (all_fail tests e))

  -- and one that is answered so was accepted
  pub graft_replied : (count : ℕ) → IsAnswered step old new (grafting branch) (Grafted count) → IsReplied step old new (grafting branch) (Grafted count)
  graft_replied count (inl r) = r
  graft_replied count (inr h) = absurd (cc h.0)

  -- one that is refused changes nothing
  dropped_same : (why : Refusal) → IsAnswered step old new (grafting branch) (Refused why) → new ≡ old
  dropped_same why (inl r) =
      let no : is_accepted old.settings (game_of step old) old.core (grafting branch) ≡ false = go (refusal old.settings (game_of step old) old.core (grafting branch)) r.said_is in
      rw no at r.played.seen ∙ sym (played_none step old).seen
    where
      go : (o : Option Refusal) → Refused why ≡ option_map_or Refused o (Grafted (length (new_paths old.core (branch_of branch.route)))) → is_none o ≡ false
      go (Some first) e = refl
      go None e = absurd (cc e)
  dropped_same why (inr h) = elim h.1.left [ inl same ↦ same.0 | inr cut ↦ absurd cut ]

  played_dropped : (why : Refusal) (b : Bool) → is_memory why ≡ b → IsAnswered step old new (grafting branch) (Refused why) → IsPlayed step old new (cond b [] (grafting branch ∷ []))
  played_dropped why false e (inl r) = r.played
  played_dropped why false e (inr h) = let is : why ≡ NoMemory = cc h.0 in let no : is_memory NoMemory ≡ false = ap is_memory (sym is) ∙ e in absurd (cc no)
  played_dropped why true e a = subst (λ (s : Seen). IsPlayed step old s []) (sym (dropped_same why a)) (played_none step old)

-- a result counts for one
pub counts_one : (fate : Fate) → (dropped_by fate ≤ 1) × (unmade_by fate ≤ 1)
counts_one (Added count) = (omega arith, omega arith)
counts_one (Dropped why) = (omega arith, omega arith)
counts_one Unmade = (omega arith, omega arith)

module _ {G S N : Type 0} (step : Step) where
  fate_played : (old new : Seen) (done : Done G S N) (fate : Fate) → IsFate step old new done fate → IsPlayed step old new (events_by done fate)
  fate_played old new (Grown branch) (Added count) r = r.played
  fate_played old new (Grown branch) (Dropped why) a = played_dropped step old new branch why (is_memory why) refl a
  fate_played old new (HasNone ticket) Unmade same = subst (λ (s : Seen). IsPlayed step old s []) (sym same) (played_none step old)
  fate_played old new (Grown branch) Unmade h = absurd h
  fate_played old new (HasNone ticket) (Added count) h = absurd h
  fate_played old new (HasNone ticket) (Dropped why) h = absurd h

  fates_push : (old mid new : Seen) (fates : List (Fated G S N)) (one : Fated G S N) → AreFates step old fates mid → IsFate step mid new one.done one.fate → AreFates step old (fates ++ one ∷ []) new
  fates_push old mid new [] one e h = (new, subst (λ (s : Seen). IsFate step s new one.done one.fate) e h, refl)
  fates_push old mid new (f ∷ fs) one all h = (all.0, all.1, fates_push all.0 mid new fs one all.2 h)

  collected_push : (old mid new : List (List (Done G S N))) (dones : List (Done G S N)) (one : Done G S N) → AreCollected old dones mid → IsCollected mid new one → AreCollected old (dones ++ one ∷ []) new
  collected_push old mid new [] one e h = (new, subst (λ (c : List (List (Done G S N))). IsCollected c new one) e h, refl)
  collected_push old mid new (d ∷ ds) one all h = (all.0, all.1, collected_push all.0 mid new ds one all.2 h)

  pub absorbed_none : (s : Seen) (came : List (List (Done G S N))) → IsAbsorbed step s came s came (record { taken = 0; added = 0; dropped = 0; unmade = 0 })
  absorbed_none s came = record { fates = []; are_fates = refl; collected = refl; played = played_none step s; taken = refl; added = refl; dropped = refl; unmade = refl; most = omega arith }

  pub absorbed_more : (old mid new : Seen) (came between after : List (List (Done G S N))) (sofar all : Absorbed) (done : Done G S N) (fate : Fate) → IsAbsorbed step old came mid between sofar → sofar.taken + 1 ≤ TURN_LIMIT
      → IsCollected between after done → IsFate step mid new done fate
      → all ≡ record { taken = sofar.taken + 1; added = sofar.added + added_by fate; dropped = sofar.dropped + dropped_by fate; unmade = sofar.unmade + unmade_by fate } → IsAbsorbed step old came new after all
  absorbed_more old mid new came between after sofar all done fate a most c f is =
      let one : Fated G S N = record { done = done; fate = fate } in
      let many = length-append a.fates (one ∷ []) in
      let events : events_of_all (a.fates ++ one ∷ []) ≡ events_of_all a.fates ++ events_by done fate =
      flat_map-append (λ (f : Fated G S N). events_by f.done f.fate) a.fates (one ∷ []) ∙ ap (λ (es : List CoreEvent). events_of_all a.fates ++ es) (append-nil (events_by done fate)) in
      record {
        fates = a.fates ++ one ∷ [];
        are_fates = fates_push old mid new a.fates one a.are_fates f;
        collected = subst (λ (ds : List (Done G S N)). AreCollected came ds after) (sym (map-append (λ (f : Fated G S N). f.done) a.fates (one ∷ []))) (collected_push came between after (map (λ (f : Fated G S N). f.done) a.fates) done a.collected c);
        played = subst (IsPlayed step old new) (sym events) (played_more step old mid new (events_of_all a.fates) (events_by done fate) a.played (fate_played mid new done fate f));
        taken = omega (arith, ap (λ (x : Absorbed). x.taken) is, a.taken, many);
        added = omega (arith, ap (λ (x : Absorbed). x.added) is, a.added, sum_by-append (λ (f : Fated G S N). added_by f.fate) a.fates (one ∷ []));
        dropped = omega (arith, ap (λ (x : Absorbed). x.dropped) is, a.dropped, sum_by-append (λ (f : Fated G S N). dropped_by f.fate) a.fates (one ∷ []));
        unmade = omega (arith, ap (λ (x : Absorbed). x.unmade) is, a.unmade, sum_by-append (λ (f : Fated G S N). unmade_by f.fate) a.fates (one ∷ []));
        most = omega (arith, a.taken, most, many);
      }
