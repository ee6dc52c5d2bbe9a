-- The turns of a settlement, and its end.
use Rattle.std.proofs.Common.{◌≡◌, ℕ, zero, suc, ◌+◌, ◌-◌, true, List, [], ◌∷◌, ◌++◌, map, length, drop, sum_by, sym, refl, ap, ◌∙◌, subst, append_assoc, append-nil, length-append, arith}
use Rattle.std.specs.List.{range_with_len}
use Rattle.std.proofs.lemmas.List.{drop_at, map-append, length-map}
use Rattle.std.proofs.lemmas.List.Sums.{sum_by-cons, sum_by-append}
use Rattle.std.proofs.lemmas.Slice.Zip.{AllZip-long}
use Rattle.roll_branch.specs.Ends.{Ends}
use Rattle.roll_branch.specs.Routed.{Routed}
use Rattle.roll_branch.specs.declared.branch.Done.{Done}
use Rattle.roll_branch.specs.declared.branch.Done.TheVariants.{Grown, Refused}
use Rattle.roll_pool.specs.declared.rule.Tally.{Tally}
use Rattle.roll_pool.specs.Rule.{SameItems, tally, counting_back, working}
use Rattle.roll_pool.specs.Dones.{AreResults, ticket_of}
use Rattle.roll_pool.specs.Rings.{DequeId, Inbox}
use Rattle.roll_pool.specs.Owners.{came_by, collected, rings_of, places_at}
use Rattle.roll_pool.specs.Settled.{Settles, tickets_of, late_of, IsLate, TakenIn}
use Rattle.roll_pool.specs.Workers.{Seated}
use Rattle.roll_pool.proofs.Moves.{sum_ones}
use Rattle.roll_pool.proofs.Zipped.{zip_append, zip_parts}

module _ {D : Type 0} where
  -- one item more of those that are known
  pub one_late : (late0 late1 late2 ys known0 known1 known2 : List D) (d : D) → late1 ≡ late0 ++ ys → known0 ≡ ys ++ known1 → late2 ≡ late1 ++ d ∷ [] → known1 ≡ d ∷ known2
      → (zs : List D) × (late2 ≡ late0 ++ zs) × (known0 ≡ zs ++ known2) × (length zs ≡ length ys + 1)
  one_late late0 late1 late2 ys known0 known1 known2 d a b e f =
      (ys ++ d ∷ [], e ∙ ap (λ (l : List D). l ++ d ∷ []) a ∙ append_assoc late0 ys (d ∷ []), b ∙ ap (λ (l : List D). ys ++ l) f ∙ sym (append_assoc ys (d ∷ []) known2), omega (arith, length-append ys (d ∷ [])))

  pub none_left : (ys rest : List D) → length (ys ++ rest) ≡ length ys → ys ++ rest ≡ ys
  none_left ys [] h = append-nil ys
  none_left ys (x ∷ rest) h = absurd (omega (arith, length-append ys (x ∷ rest)))

module _ {T : Type 0} where
  -- the next of a list's items is taken
  pub drop_next : (n : ℕ) (xs : List T) (x : T) (rest : List T) → drop n xs ≡ x ∷ rest → drop (n + 1) xs ≡ rest
  drop_next zero [] x rest is = absurd (let e = ap length is in omega arith)
  drop_next zero (y ∷ xs) x rest is = ap (drop 1) is
  drop_next (suc n) [] x rest is = absurd (let e = ap length is in omega arith)
  drop_next (suc n) (y ∷ xs) x rest is = let e : suc n + 1 ≡ suc (n + 1) = omega arith in ap (λ k. drop k (y ∷ xs)) e ∙ drop_next n xs x rest is

  -- one job more is taken back
  pub left_more : (left left' : List T) (x : T) (n n' : ℕ) (xs all rest : List T) → left' ≡ left ++ x ∷ [] → n' ≡ n + 1 → drop n xs ≡ x ∷ rest → left ++ drop n xs ≡ all → left' ++ drop n' xs ≡ all
  left_more left left' x n n' xs all rest more next is was =
      (λ i. more i ++ drop (next i) xs) ∙ append_assoc left (x ∷ []) (drop (n + 1) xs) ∙ ap (λ l. left ++ x ∷ l) (drop_next n xs x rest is) ∙ ap (λ l. left ++ l) (sym is) ∙ was

  pub same_length : (xs ys : List T) → SameItems xs ys → length xs ≡ length ys
  same_length xs ys same = sym (sum_ones xs) ∙ same (λ _. 1) ∙ sum_ones ys

sum_map : (f : ℕ → ℕ) (xs : List Routed) → sum_by f (map (λ j. j.ticket) xs) ≡ sum_by (λ j. f j.ticket) xs
sum_map f [] = refl
sum_map f (x ∷ xs) = omega (arith, sum_by-cons f x.ticket (map (λ j. j.ticket) xs), sum_by-cons (λ (j : Routed). f j.ticket) x xs, sum_map f xs)

module _ {D : Type 0} where
  -- the next end is at the place of the next ring
  pub places_step : (d d' : DequeId) (s : ℕ) (rings : List (Inbox D)) (r : Inbox D) (rs : List (Inbox D)) (ends : List (Seated D)) (e : Seated D) (es : List (Seated D))
      → map (λ e. e.place) ends ≡ places_at d s (rings_of rings) → rings ≡ r ∷ rs → ends ≡ e ∷ es → d' ≡ d → (e.place.deque ≡ d) × (e.place.ring ≡ r.ring) × (map (λ e. e.place) es ≡ places_at d' s (rings_of rs))
  places_step d d' s rings r rs ends e es was isr ise same =
      let all : e.place ∷ map (λ (x : Seated D). x.place) es ≡ record { deque = d; ring = r.ring; signals = s } ∷ places_at d s (rings_of rs) = ap (map (λ (x : Seated D). x.place)) (sym ise) ∙ was ∙ ap (λ l. places_at d s (rings_of l)) isr in
      let one : e.place ≡ record { deque = d; ring = r.ring; signals = s } = cc in
      let rest : map (λ (x : Seated D). x.place) es ≡ places_at d s (rings_of rs) = cc in
      (ap (λ p. p.deque) one, ap (λ p. p.ring) one, rest ∙ ap (λ x. places_at x s (rings_of rs)) (sym same))

  pub no_rings : (d : DequeId) (s : ℕ) (rings : List (Inbox D)) (ends : List (Seated D)) → map (λ e. e.place) ends ≡ places_at d s (rings_of rings) → length ends ≡ 0 → length rings ≡ 0
  no_rings d s rings ends was none = sym (length-map rings (λ r. r.ring)) ∙ sym (length-map (rings_of rings) (λ ring. record { deque = d; ring = ring; signals = s })) ∙ ap length (sym was) ∙ length-map ends (λ e. e.place) ∙ none

  pub view_step : (v w : Tally Routed) (rings : List (Inbox D)) (r : Inbox D) (rs : List (Inbox D)) (jobs : List Routed) → rings ≡ r ∷ rs → v ≡ tally true v.issued (length rings) 0 v.jobs → w ≡ counting_back v (working jobs) → w ≡ tally true w.issued (length rs) 0 w.jobs
  view_step v w rings r rs jobs isr isv isw =
      let n : length rings - 1 ≡ length rs = omega (arith, ap length isr) in
      isw ∙ ap (λ (u : Tally Routed). counting_back u (working jobs)) isv ∙ (λ i. tally true (sym (ap (λ (u : Tally Routed). u.issued) isw) i) (n i) 0 (sym (ap (λ (u : Tally Routed). u.jobs) isw) i))

module _ {G S N : Type 0} where
  pub one_more_in : (jobs more jobs' withdrawn : List Routed) (came rest came' rest' results late late' : List (Done G S N)) → TakenIn jobs withdrawn came rest late → jobs' ≡ jobs ++ more → rest ≡ came' ++ rest' → IsLate came' results late late' → AreResults more results → TakenIn jobs' withdrawn came rest' late'
  one_more_in jobs more jobs' withdrawn came rest came' rest' results late late' was joined is one told =
      let parts = zip_parts Ends more came' one.more (subst (λ (l : List (Done G S N)). AreResults more l) (sym one.all) told) in record {
        come = was.come ++ parts.0;
        belated = was.belated ++ parts.1;
        first = was.first ++ came';
        whole = append_assoc was.first came' rest' ∙ ap (λ l. was.first ++ l) (sym is) ∙ was.whole;
        of_come = zip_append Ends was.come parts.0 was.first came' was.of_come parts.3;
        of_belated = subst (λ (l : List (Done G S N)). AreResults (was.belated ++ parts.1) l) (sym one.grown) (zip_append Ends was.belated parts.1 late one.more was.of_belated parts.4);
        all = λ f. omega (arith, was.all f, sum_by-append f withdrawn (was.come ++ was.belated), sum_by-append f withdrawn ((was.come ++ parts.0) ++ (was.belated ++ parts.1)), sum_by-append f was.come was.belated, sum_by-append f (was.come ++ parts.0) (was.belated ++ parts.1), sum_by-append f was.come parts.0, sum_by-append f was.belated parts.1, sum_by-append f jobs more, ap (sum_by f) joined, ap (sum_by f) parts.2, sum_by-append f parts.0 parts.1);
      }

  -- one end more is taken in: its results that were not collected come next
  pub late_step : (all late late' : List (Done G S N)) (rings : List (Inbox (Done G S N))) (r : Inbox (Done G S N)) (rs : List (Inbox (Done G S N))) (ends : List (Seated (Done G S N))) (e : Seated (Done G S N)) (es : List (Seated (Done G S N)))
      → late ++ late_of (came_by rings) ends ≡ all → rings ≡ r ∷ rs → ends ≡ e ∷ es → IsLate r.came e.results late late' → late' ++ late_of (came_by rs) es ≡ all
  late_step all late late' rings r rs ends e es was isr ise one =
      let more : drop (length r.came) e.results ≡ one.more = ap (drop (length r.came)) (sym one.all) ∙ drop_at r.came one.more (length r.came) refl in
      let first : late_of (came_by rings) ends ≡ one.more ++ late_of (came_by rs) es =
      (λ i. late_of (came_by (isr i)) (ise i)) ∙ ap (λ l. l ++ late_of (came_by rs) es) more in
      ap (λ l. l ++ late_of (came_by rs) es) one.grown ∙ append_assoc late one.more (late_of (came_by rs) es) ∙ ap (λ l. late ++ l) (sym first) ∙ was

  -- with no ring left, all are there
  pub all_late : (all late : List (Done G S N)) (rings : List (Inbox (Done G S N))) (ends : List (Seated (Done G S N))) → late ++ late_of (came_by rings) ends ≡ all → length rings ≡ 0 → late ≡ all
  all_late all late [] ends was none = sym (append-nil late) ∙ was
  all_late all late (r ∷ rs) ends was none = absurd (omega arith)

  number : (j : Routed) (d : Done G S N) → Ends j d → ticket_of d ≡ j.ticket
  number j (Grown b) e = ap (λ (r : Routed). r.ticket) e
  number j (Refused t) e = e

  numbers : (jobs : List Routed) (dones : List (Done G S N)) → AreResults jobs dones → map ticket_of dones ≡ map (λ j. j.ticket) jobs
  numbers [] [] h = refl
  numbers [] (d ∷ ds) h = absurd h
  numbers (j ∷ js) [] h = absurd h
  numbers (j ∷ js) (d ∷ ds) h = λ i. number j d h.0 i ∷ numbers js ds h.1 i

  -- with no ring left, all that was collected came from the ends that were taken in
  pub at_end : (jobs withdrawn : List Routed) (came late : List (Done G S N)) (rest : List (Inbox (Done G S N))) → length rest ≡ 0 → TakenIn jobs withdrawn came (collected (came_by rest)) late → TakenIn jobs withdrawn came [] late
  at_end jobs withdrawn came late [] none t = t
  at_end jobs withdrawn came late (r ∷ rest) none t = absurd (omega arith)

  pub taken_length : (jobs withdrawn : List Routed) (came late : List (Done G S N)) → TakenIn jobs withdrawn came [] late → length jobs ≡ (length came + length withdrawn) + length late
  taken_length jobs withdrawn came late t =
      let first : length t.first ≡ length came = ap length (sym (append-nil t.first) ∙ t.whole) in
      omega (arith, same_length (withdrawn ++ (t.come ++ t.belated)) jobs t.all, length-append withdrawn (t.come ++ t.belated), length-append t.come t.belated, AllZip-long Ends t.come t.first t.of_come, AllZip-long Ends t.belated late t.of_belated)

  pub settles : (jobs issued issued' withdrawn : List Routed) (came came' late : List (Done G S N)) (left : List Routed) → TakenIn jobs withdrawn came [] late → SameItems (jobs ++ left) issued → issued ≡ issued' → came ≡ came'
      → Settles issued' withdrawn came' late left
  settles jobs issued issued' withdrawn came came' late left t all same seen = record {
    come = t.come;
    belated = t.belated;
    of_come = subst (λ (l : List (Done G S N)). AreResults t.come l) (sym (append-nil t.first) ∙ t.whole ∙ seen) t.of_come;
    of_belated = t.of_belated;
    all = λ f. omega (arith, t.all f, all f, ap (sum_by f) same, sum_by-append f (t.come ++ t.belated) (withdrawn ++ left), sum_by-append f withdrawn left, sum_by-append f withdrawn (t.come ++ t.belated), sum_by-append f jobs left);
  }

  pub settled_sum : (issued withdrawn : List Routed) (came late : List (Done G S N)) (left : List Routed) → Settles issued withdrawn came late left → length issued ≡ length came + length withdrawn + length late + length left
  settled_sum issued withdrawn came late left s =
      omega (arith, same_length ((s.come ++ s.belated) ++ (withdrawn ++ left)) issued s.all, length-append (s.come ++ s.belated) (withdrawn ++ left), length-append withdrawn left, length-append s.come s.belated, AllZip-long Ends s.come came s.of_come, AllZip-long Ends s.belated late s.of_belated)

  pub settled_tickets : (issued : List Routed) (n : ℕ) (withdrawn : List Routed) (came late : List (Done G S N)) (left : List Routed) → Settles issued withdrawn came late left → map (λ j. j.ticket) issued ≡ range_with_len 0 n
      → SameItems (tickets_of (came ++ late) (withdrawn ++ left)) (range_with_len 0 n)
  settled_tickets issued n withdrawn came late left s numbered f =
      let unrun = withdrawn ++ left in
      let all = (s.come ++ s.belated) ++ unrun in
      let results : map ticket_of (came ++ late) ≡ map (λ j. j.ticket) (s.come ++ s.belated) = numbers _ _ (zip_append Ends s.come s.belated came late s.of_come s.of_belated) in
      let tickets : tickets_of (came ++ late) unrun ≡ map (λ j. j.ticket) all = ap (λ l. l ++ map (λ (j : Routed). j.ticket) unrun) results ∙ sym (map-append (λ (j : Routed). j.ticket) (s.come ++ s.belated) unrun) in
      ap (sum_by f) tickets ∙ sum_map f all ∙ s.all (λ j. f j.ticket) ∙ sym (sum_map f issued) ∙ ap (sum_by f) numbered
