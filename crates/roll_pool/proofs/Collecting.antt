-- One more result comes by one of the rings.
use Rattle.std.proofs.Common.{◌≡◌, ℕ, zero, suc, true, ◌+◌, ◌<◌, List, [], ◌∷◌, ◌++◌, length, get_or, set, replicate, sym, refl, ap, ◌∙◌, IfSome, Option, Some, None, length-append, arith, map}
use Rattle.std.proofs.lemmas.List.{map-set, get_or-map}
use Rattle.std.proofs.Math.Seq.{map-set_same}
use Rattle.roll_branch.specs.Routed.{Routed}
use Rattle.roll_pool.specs.declared.rule.Tally.{Tally}
use Rattle.roll_pool.specs.Rule.{tally}
use Rattle.roll_pool.specs.Rings.{Inbox, Place}
use Rattle.roll_pool.specs.Workers.{fresh}
use Rattle.roll_pool.specs.Owners.{collected, came_by, rings_of, IsSound}

module _ {D : Type 0} where
  pub rings_set : (l : List (Inbox D)) (i : ℕ) (old new : Inbox D) → old ≡ get_or l i old → new.ring ≡ old.ring → rings_of (set l i new) ≡ rings_of l
  rings_set l i old new is same = map-set_same (λ (r : Inbox D). r.ring) l i new old (same ∙ ap (λ (r : Inbox D). r.ring) is)

  pub came_set : (l : List (Inbox D)) (i : ℕ) (old new : Inbox D) (o : Option D) → i < length l → old ≡ get_or l i old → IfSome o (λ d. new ≡ record old { came = old.came ++ d ∷ [] })
      → IfSome o (λ d. came_by (set l i new) ≡ set (came_by l) i (get_or (came_by l) i [] ++ d ∷ []))
  came_set l i old new None lt is h = h
  came_set l i old new (Some d) lt is h =
      let was : get_or (came_by l) i [] ≡ old.came = get_or-map (λ (r : Inbox D). r.came) l i old [] lt ∙ ap (λ (r : Inbox D). r.came) (sym is) in
      map-set (λ (r : Inbox D). r.came) l i new ∙ ap (set (came_by l) i) (ap (λ (r : Inbox D). r.came) h ∙ ap (λ x. x ++ d ∷ []) (sym was))

  -- what was collected is one more
  pub one_more : (came : List (List D)) (i : ℕ) (d : D) → i < length came → length (collected (set came i (get_or came i [] ++ d ∷ []))) ≡ length (collected came) + 1
  one_more [] i d lt = absurd (omega arith)
  one_more (xs ∷ came) zero d lt = omega (arith, length-append (xs ++ d ∷ []) (collected came), length-append xs (d ∷ []), length-append xs (collected came))
  one_more (xs ∷ came) (suc i) d lt = omega (arith, one_more came i d (omega arith), length-append xs (collected came), length-append xs (collected (set came i (get_or came i [] ++ d ∷ []))))

pub sound_after : (v : Tally Routed) (flavor index capacity workers workers' issued count withdrawn : ℕ) → IsSound v flavor index capacity workers issued count withdrawn → workers' ≡ workers → count + withdrawn < issued
    → IsSound v flavor index capacity workers' issued (count + 1) withdrawn
sound_after v flavor index capacity workers workers' issued count withdrawn was same some = record {
  knows = was.knows ∙ ap (λ n. tally true v.issued n 0 v.jobs) (sym same);
  fifo = was.fifo;
  next = was.next;
  places = was.places;
  many = was.many;
  numbered = was.numbered;
  back = was.back;
  taken = omega (arith, some);
  few = omega (arith, was.few);
  most = was.most;
  team = omega (arith, was.team, same);
}

-- before the first result
pub none_came : (D : Type 0) (n : ℕ) → length (collected (replicate {A = List D} n [])) ≡ 0
none_came D zero = refl
none_came D (suc n) = none_came D n

-- before the first turn each end is at its place
pub fresh_places : (D : Type 0) (places : List Place) → map (λ e. e.place) (map (fresh {D = D}) places) ≡ places
fresh_places D [] = refl
fresh_places D (p ∷ places) = ap (λ l. p ∷ l) (fresh_places D places)
