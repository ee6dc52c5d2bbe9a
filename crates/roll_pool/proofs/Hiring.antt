-- One worker more is hired.
use Rattle.std.proofs.Common.{◌≡◌, ◌∙◌, ℕ, zero, suc, ◌+◌, List, [], ◌∷◌, ◌++◌, length, map, replicate, ap, sym, refl, add-one, arith, append_assoc}
use Rattle.std.proofs.lemmas.List.{append-nil, map-append}
use Rattle.roll_pool.specs.Owners.{came_by, places_at, rings_of}
use Rattle.roll_pool.specs.Rings.{DequeId, Inbox, Place, Ring}
use Rattle.roll_pool.specs.Workers.{fresh, Seated}

module _ {D : Type 0} where
  -- the ends are at the places of their rings
  pub ends_more : (deque : DequeId) (signals : ℕ) (rings : List (Inbox D)) (ends : List (Seated D)) (ring : Inbox D) (end : Seated D) → ends ≡ map fresh (places_at deque signals (rings_of rings)) → end ≡ fresh (record { deque = deque; ring = ring.ring; signals = signals })
      → ends ++ end ∷ [] ≡ map fresh (places_at deque signals (rings_of (rings ++ ring ∷ [])))
  ends_more deque signals rings ends ring end are is =
      let place : Ring → Place = λ r. record { deque = deque; ring = r; signals = signals } in
      let places = ap (places_at deque signals) (map-append (λ (r : Inbox D). r.ring) rings (ring ∷ [])) ∙ map-append place (rings_of rings) (ring.ring ∷ []) in
      (λ i. are i ++ is i ∷ []) ∙ sym (ap (map (fresh {D = D})) places ∙ map-append (fresh {D = D}) (places_at deque signals (rings_of rings)) (place ring.ring ∷ []))

  none_more : (n : ℕ) → replicate {A = List D} n [] ++ [] ∷ [] ≡ replicate (suc n) []
  none_more zero = refl
  none_more (suc n) = ap (λ l. [] ∷ l) (none_more n)

  -- and nothing came by any of them
  pub came_more : (rings : List (Inbox D)) (ring : Inbox D) (n : ℕ) → came_by rings ≡ replicate n [] → ring.came ≡ [] → came_by (rings ++ ring ∷ []) ≡ replicate (n + 1) []
  came_more rings ring n are none =
      map-append (λ (r : Inbox D). r.came) rings (ring ∷ []) ∙ (λ i. are i ++ none i ∷ []) ∙ none_more n ∙ ap (λ m. replicate m []) (sym (add-one n))

module _ {A B : Type 0} (f : A → B) where
  -- what the crew was given comes before what is left for those to come
  pub hired_more : (crew : List A) (member : A) (rest items all : List B) → map f crew ++ items ≡ all → items ≡ f member ∷ rest → map f (crew ++ member ∷ []) ++ rest ≡ all
  hired_more crew member rest items all are is =
      ap (λ l. l ++ rest) (map-append f crew (member ∷ [])) ∙ append_assoc (map f crew) (f member ∷ []) rest ∙ ap (λ l. map f crew ++ l) (sym is) ∙ are

  pub all_hired : (crew : List A) (rest all : List B) → map f crew ++ rest ≡ all → length rest ≡ 0 → map f crew ≡ all
  all_hired crew [] all are none = sym (append-nil (map f crew)) ∙ are
  all_hired crew (b ∷ rest) all are none = absurd (omega arith)
