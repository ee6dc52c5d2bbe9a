-- Which slots are taken.
use Rattle.std.proofs.Common.{◌≡◌, ℕ, zero, suc, ◌+◌, ◌-◌, ◌<◌, ◌≤◌, List, [], ◌∷◌, ◌++◌, length, get_or, set, map, take, refl, ap, sym, subst, ◌∙◌, arith, inl, inr, Bool, true, false, cond, Some}
use Rattle.std.specs.List.{list_any, range_with_len}
use Rattle.std.specs.Prelude.{◌⊎◌, ◌||◌, ◌==◌, All, IsSome, filter, not, option_map, replicate}
use Rattle.std.proofs.lemmas.Bool.{cases_eq, cases_lt, eq-eqb, eqb-true, false≢true, ne_eqb, or_cases, or_left, or_right}
use Rattle.std.proofs.lemmas.List.{append-nil, get_or_append_left, get_or_default, length-append, length-take, map-id, take-append-le, take_all}
use Rattle.std.proofs.Math.Seq.{get_or-append_seam}
use Rattle.std.proofs.lemmas.List.Elements.{All-head, All-tail, All-push, All-weaker, filter-append}
use Rattle.std.proofs.lemmas.List.Folds.{list_any_at, list_any_more}
use Rattle.std.proofs.lemmas.List.FromFn.{map-range_with_len_more}
use Rattle.slab.specs.Slab.{Slab, entries, get}
use Rattle.slab.proofs.SlabLemmas.{Contains-entries}
use Rattle.roll_tree.specs.SavedStates.{Saved, SavedStates, state_named}
use Rattle.roll_session.proofs.Rolling.{snapshot_is, some_there}
use Rattle.roll_requests.specs.Slotted.{free_slots, holds, is_among, is_needed, is_out, is_saved, is_taken, least_free, AreFree, AreTaken, Guessed, HasPlaces, IsHeld, IsTaken}

-- a slot that is taken has a place
pub taken_within : (taken : List Bool) (slot : ℕ) → IsTaken taken slot → slot < length taken
taken_within [] slot t = absurd (false≢true t)
taken_within (x ∷ xs) zero t = omega arith
taken_within (x ∷ xs) (suc slot) t = let rest = taken_within xs slot t in omega (arith, rest)

pub job_within : (taken : List Bool) (job : Guessed) → IsHeld taken job → HasPlaces taken job
job_within taken job h = record { start = taken_within taken job.start h.start; slots = λ k d few. taken_within taken _ (h.slots k d few) }

pub or_false : (b : Bool) → b ≡ (b || false)
or_false true = refl
or_false false = refl

pub or_true : (b : Bool) → true ≡ (b || true)
or_true true = refl
or_true false = refl

pub or_assoc : (a b c : Bool) → ((a || b) || c) ≡ (a || (b || c))
or_assoc true b c = refl
or_assoc false b c = refl

same_next : (a b : ℕ) → (a == b) ≡ (suc a == suc b)
same_next a b = go (cases_eq a b)
  where
    go : (a ≡ b) ⊎ (a ≡ b → ⊥) → (a == b) ≡ (suc a == suc b)
    go (inl e) = eq-eqb a b e ∙ sym (eq-eqb (suc a) (suc b) (ap suc e))
    go (inr n) = ne_eqb a b n ∙ sym (ne_eqb (suc a) (suc b) (λ e. n (omega (arith, e))))

-- one slot more is taken
pub filled : (taken : List Bool) (slot k : ℕ) → slot < length taken → is_taken (set taken slot true) k ≡ (is_taken taken k || slot == k)
filled [] slot k few = absurd (omega (arith, few))
filled (x ∷ xs) zero zero few = or_true x
filled (x ∷ xs) zero (suc k) few = or_false (is_taken xs k) ∙ ap (λ b. is_taken xs k || b) (sym (ne_eqb zero (suc k) (λ e. omega (arith, e))))
filled (x ∷ xs) (suc slot) zero few = or_false x ∙ ap (λ b. x || b) (sym (ne_eqb (suc slot) zero (λ e. omega (arith, e))))
filled (x ∷ xs) (suc slot) (suc k) few = filled xs slot k (omega (arith, few)) ∙ ap (λ b. is_taken xs k || b) (same_next slot k)

pub filled_more : (slots : List ℕ) (n k : ℕ) (old new : Bool) → n < length slots → new ≡ (old || is_among (take n slots) k) → (new || get_or slots n 0 == k) ≡ (old || is_among (take (n + 1) slots) k)
filled_more slots n k old new few e =
    ap (λ b. b || get_or slots n 0 == k) e
    ∙ or_assoc old (is_among (take n slots) k) (get_or slots n 0 == k)
    ∙ ap (λ b. old || b) (sym (list_any_more (λ other. other == k) slots n 0 few))

among : (slots : List ℕ) (k d : ℕ) → k < length slots → is_among slots (get_or slots k d) ≡ true
among slots k d few = list_any_at (λ other. other == get_or slots k d) slots k d few (eq-eqb (get_or slots k d) (get_or slots k d) refl)

-- what was taken still is, and so are the slots that were filled
pub still_taken : (old new : List Bool) (slots : List ℕ) → ((k : ℕ) → is_taken new k ≡ (is_taken old k || is_among slots k)) → (k : ℕ) → IsTaken old k → IsTaken new k
still_taken old new slots filled k t = filled k ∙ or_left (is_taken old k) (is_among slots k) t

pub now_taken : (old new : List Bool) (slots : List ℕ) → ((k : ℕ) → is_taken new k ≡ (is_taken old k || is_among slots k)) → All (IsTaken new) slots
now_taken old new slots filled = λ i d few.
    let slot : ℕ = get_or slots i d in
    filled slot ∙ or_right (is_taken old slot) (is_among slots slot) (among slots i d few)

-- the state of a place, by its name
pub at_place : (t : SavedStates ℕ) (states : List (Saved ℕ)) (place : ℕ) → All (λ s. state_named t s.name ≡ Some s) states → place < length states
    → (u : Saved ℕ) × (get_or (map (λ s. s.name) states) place 0 ≡ u.name) × (state_named t u.name ≡ Some u) × ((d : Saved ℕ) → get_or states place d ≡ u)
at_place t [] place h few = absurd (omega (arith, few))
at_place t (x ∷ xs) zero h few = (x, refl, All-head (λ s. state_named t s.name ≡ Some s) x xs h, λ d. refl)
at_place t (x ∷ xs) (suc place) h few = at_place t xs place (All-tail (λ s. state_named t s.name ≡ Some s) x xs h) (omega (arith, few))

module _ (t : SavedStates ℕ) (names : List ℕ) (names_are : names ≡ map (λ s. s.name) t.states) (place : ℕ) (h : All (λ s. state_named t s.name ≡ Some s) t.states) (few : place < length t.states) where
  named : get_or names place 0 ≡ (at_place t t.states place h few).0.name
  named = ap (λ (l : List ℕ). get_or l place 0) names_are ∙ (at_place t t.states place h few).1

  pub is_there : IsSome (state_named t (get_or names place 0))
  is_there = let w = at_place t t.states place h few in subst (λ n. IsSome (state_named t n)) (sym named) (some_there (state_named t w.0.name) w.0 w.2)

  -- what holds of all slots holds of that of the state at this place
  has : (slot : ℕ) → option_map (λ s. s.snapshot) (state_named t (get_or names place 0)) ≡ Some slot → (at_place t t.states place h few).0.snapshot ≡ slot
  has slot told = let w = at_place t t.states place h few in snapshot_is (state_named t w.0.name) w.0 slot (subst (λ n. option_map (λ (s : Saved ℕ). s.snapshot) (state_named t n) ≡ Some slot) named told) w.2

  pub of_place : (P : ℕ → Type 0) (slot : ℕ) → option_map (λ s. s.snapshot) (state_named t (get_or names place 0)) ≡ Some slot → All (λ u. P u.snapshot) t.states → P slot
  of_place P slot told all =
      let w = at_place t t.states place h few in
      subst P (has slot told) (subst (λ (u : Saved ℕ). P u.snapshot) (w.3 w.0) (all place w.0 few))

  pub saved_more : (slot k : ℕ) (old new : Bool) → option_map (λ s. s.snapshot) (state_named t (get_or names place 0)) ≡ Some slot → new ≡ (old || is_saved (take place t.states) k) → (new || slot == k) ≡ (old || is_saved (take (place + 1) t.states) k)
  saved_more slot k old new told e =
      let w = at_place t t.states place h few in
      let last : (slot == k) ≡ ((get_or t.states place w.0).snapshot == k) = ap (λ (n : ℕ). n == k) (sym (has slot told) ∙ ap (λ (u : Saved ℕ). u.snapshot) (sym (w.3 w.0))) in
      ap (λ b. b || slot == k) e
      ∙ or_assoc old (is_saved (take place t.states) k) (slot == k)
      ∙ ap (λ b. old || (is_saved (take place t.states) k || b)) last
      ∙ ap (λ b. old || b) (sym (list_any_more (λ (u : Saved ℕ). u.snapshot == k) t.states place w.0 few))

pub none_free : (limit : ℕ) (taken : List Bool) → AreFree limit taken []
none_free limit taken = record { free = λ k d few. absurd (omega (arith, few)); below = λ k d few. absurd (omega (arith, few)); rising = λ i k d before few. absurd (omega (arith, few)) }

-- one more slot, past the others
pub free_more : (limit : ℕ) (taken : List Bool) (slots : List ℕ) (slot : ℕ) → AreFree limit taken slots → All (λ j. j < slot) slots → is_taken taken slot ≡ false → slot < limit → AreFree limit taken (slots ++ slot ∷ [])
free_more limit taken slots slot u below free low =
    record {
      free = All-push (λ s. is_taken taken s ≡ false) slots slot u.free free;
      below = All-push (λ s. s < limit) slots slot u.below low;
      rising = λ i k d before few. go i k d before few (cases_lt k (length slots));
    }
  where
    go : (i k d : ℕ) → i < k → k < length (slots ++ slot ∷ []) → (k < length slots) ⊎ (length slots ≤ k) → get_or (slots ++ slot ∷ []) i d < get_or (slots ++ slot ∷ []) k d
    go i k d before few (inl within) =
        rw (get_or_append_left slots (slot ∷ []) d i (omega (arith, before, within)), get_or_append_left slots (slot ∷ []) d k within) (u.rising i k d before within)
    go i k d before few (inr past) =
        let last : k ≡ length slots = omega (arith, few, past, length-append slots (slot ∷ [])) in
        let read : get_or (slots ++ slot ∷ []) k d ≡ slot = ap (λ n. get_or (slots ++ slot ∷ []) n d) last ∙ get_or-append_seam slots slot [] d in
        rw (read, get_or_append_left slots (slot ∷ []) d i (omega (arith, before, last))) (below i d (omega (arith, before, last)))

pub below_next : (slots : List ℕ) (slot : ℕ) → All (λ j. j < slot) slots → All (λ j. j < slot + 1) slots
below_next slots slot below = All-weaker (λ j. j < slot) (λ j. j < slot + 1) (λ j h. omega (arith, h)) slots below

pub below_more : (slots : List ℕ) (slot : ℕ) → All (λ j. j < slot) slots → All (λ j. j < slot + 1) (slots ++ slot ∷ [])
below_more slots slot below = All-push (λ j. j < slot + 1) slots slot (below_next slots slot below) (omega arith)

-- taken slots stay taken where more are
pub held_kept : (old new : List Bool) → ((k : ℕ) → IsTaken old k → IsTaken new k) → (job : Guessed) → IsHeld old job → IsHeld new job
held_kept old new kept job h = record { start = kept job.start h.start; slots = λ k d few. kept _ (h.slots k d few) }

pub are_kept : (states : List (Saved ℕ)) (jobs : Slab Guessed) (old new : List Bool) → ((k : ℕ) → IsTaken old k → IsTaken new k) → AreTaken states jobs old → AreTaken states jobs new
are_kept states jobs old new kept t =
    record { saved = λ k d few. kept _ (t.saved k d few); out = λ n job there. held_kept old new kept job (t.out n job there) }

pub free_same : (limit : ℕ) (old new : List Bool) (slots : List ℕ) → ((k : ℕ) → is_taken new k ≡ is_taken old k) → AreFree limit old slots → AreFree limit new slots
free_same limit old new slots same f = record { free = λ k d few. same _ ∙ f.free k d few; below = f.below; rising = f.rising }

-- places past the last are not taken
pub more_places : (taken : List Bool) (n k : ℕ) → is_taken (taken ++ replicate n false) k ≡ is_taken taken k
more_places [] zero k = refl
more_places [] (suc n) zero = refl
more_places [] (suc n) (suc k) = more_places [] n k
more_places (x ∷ xs) n zero = refl
more_places (x ∷ xs) n (suc k) = more_places xs n k

-- the free slots below the next limit
free_next : (is_used : ℕ → Bool) (n : ℕ) → free_slots is_used (n + 1) ≡ free_slots is_used n ++ cond (not (is_used n)) (n ∷ []) []
free_next is_used n =
    let p : ℕ → Bool = λ slot. not (is_used slot) in
    let numbers : range_with_len 0 (n + 1) ≡ range_with_len 0 n ++ n ∷ [] =
    sym (map-id (range_with_len 0 (n + 1))) ∙ map-range_with_len_more (λ (x : ℕ). x) 0 n n (omega arith) ∙ ap (λ (l : List ℕ). l ++ n ∷ []) (map-id (range_with_len 0 n)) in
    ap (filter p) numbers ∙ filter-append p (range_with_len 0 n) (n ∷ [])

pub free_then : (is_used : ℕ → Bool) (n : ℕ) (slots : List ℕ) → is_used n ≡ false → slots ≡ free_slots is_used n → slots ++ n ∷ [] ≡ free_slots is_used (n + 1)
free_then is_used n slots free e = ap (λ (l : List ℕ). l ++ n ∷ []) e ∙ sym (free_next is_used n ∙ ap (λ b. free_slots is_used n ++ cond (not b) (n ∷ []) []) free)

pub free_else : (is_used : ℕ → Bool) (n : ℕ) (slots : List ℕ) → is_used n ≡ true → slots ≡ free_slots is_used n → slots ≡ free_slots is_used (n + 1)
free_else is_used n slots used e = e ∙ sym (free_next is_used n ∙ ap (λ b. free_slots is_used n ++ cond (not b) (n ∷ []) []) used ∙ append-nil (free_slots is_used n))

-- those below a limit are the first of those below a later one
pub free_first : (is_used : ℕ → Bool) (n more : ℕ) → take (length (free_slots is_used n)) (free_slots is_used (n + more)) ≡ free_slots is_used n
free_first is_used n zero =
    let same : n + 0 ≡ n = omega arith in
    rw same (take_all (length (free_slots is_used n)) (free_slots is_used n) (omega arith))
free_first is_used n (suc more) =
    let next : n + suc more ≡ (n + more) + 1 = omega arith in
    let here : List ℕ = free_slots is_used (n + more) in
    let last : List ℕ = cond (not (is_used (n + more))) ((n + more) ∷ []) [] in
    let before = free_first is_used n more in
    let few : length (free_slots is_used n) ≤ length here = omega (arith, ap length before, length-take (length (free_slots is_used n)) here) in
    ap (λ k. take (length (free_slots is_used n)) (free_slots is_used k)) next
    ∙ ap (take (length (free_slots is_used n))) (free_next is_used (n + more))
    ∙ take-append-le (length (free_slots is_used n)) here last few
    ∙ before

pub least_is : (is_used : ℕ → Bool) (limit n count : ℕ) (slots : List ℕ) → n ≤ limit → slots ≡ free_slots is_used n → length slots ≡ count → slots ≡ least_free is_used limit count
least_is is_used limit n count slots low e many =
    let whole : n + (limit - n) ≡ limit = omega (arith, low) in
    e
    ∙ sym (free_first is_used n (limit - n))
    ∙ ap (λ k. take (length (free_slots is_used n)) (free_slots is_used k)) whole
    ∙ ap (λ k. take k (free_slots is_used limit)) (ap length (sym e) ∙ many)

filter_same : (p q : ℕ → Bool) → ((k : ℕ) → p k ≡ q k) → (xs : List ℕ) → filter p xs ≡ filter q xs
filter_same p q same [] = refl
filter_same p q same (x ∷ xs) = rw (same x) (ap (λ (l : List ℕ). cond (q x) (x ∷ l) l) (filter_same p q same xs))

-- where the same are in use, the same are free
pub free_alike : (p q : ℕ → Bool) → ((k : ℕ) → p k ≡ q k) → (limit : ℕ) → free_slots p limit ≡ free_slots q limit
free_alike p q same limit = filter_same (λ slot. not (p slot)) (λ slot. not (q slot)) (λ k. ap not (same k)) (range_with_len 0 limit)

-- just what is needed is held, once the slots of the states and of the jobs are
pub held_is : (states : List (Saved ℕ)) (jobs : Slab Guessed) (none saved held : List Bool) → ((k : ℕ) → is_taken none k ≡ false) → ((k : ℕ) → is_taken saved k ≡ (is_taken none k || is_saved states k)) → ((k : ℕ) → is_taken held k ≡ (is_taken saved k || is_out jobs k))
    → (k : ℕ) → is_taken held k ≡ is_needed states jobs k
held_is states jobs none saved held a b c k = c k ∙ ap (λ t. t || is_out jobs k) (b k) ∙ ap (λ t. (t || is_saved states k) || is_out jobs k) (a k)

-- a job that is out has its slots among theirs
out_has : (jobs : Slab Guessed) (n : ℕ) (job : Guessed) (slot : ℕ) → get jobs n ≡ Some job → holds job slot ≡ true → is_out jobs slot ≡ true
out_has jobs n job slot there h =
    let at = (Contains-entries jobs n job).1 there in
    list_any_at (λ (out : ℕ × Guessed). holds out.1 slot) (entries jobs) at.0 (n, job) at.1 (ap (λ (out : ℕ × Guessed). holds out.1 slot) at.2 ∙ h)

-- where just what is needed is taken, the slots of the states and of the jobs are
pub are_held : (states : List (Saved ℕ)) (jobs : Slab Guessed) (held : List Bool) → ((k : ℕ) → is_taken held k ≡ is_needed states jobs k) → AreTaken states jobs held
are_held states jobs held exact =
    record {
      saved = λ k d few.
          let slot : ℕ = (get_or states k d).snapshot in
          exact slot ∙ or_left (is_saved states slot) (is_out jobs slot) (list_any_at (λ (u : Saved ℕ). u.snapshot == slot) states k d few (eq-eqb slot slot refl));
      out = λ n job there. record {
        start = of_out n job there job.start (or_left (job.start == job.start) (is_among job.slots job.start) (eq-eqb job.start job.start refl));
        slots = λ k d few. let slot : ℕ = get_or job.slots k d in of_out n job there slot (or_right (job.start == slot) (is_among job.slots slot) (among job.slots k d few));
      };
    }
  where
    of_out : (n : ℕ) (job : Guessed) → get jobs n ≡ Some job → (slot : ℕ) → holds job slot ≡ true → IsTaken held slot
    of_out n job there slot h = exact slot ∙ or_right (is_saved states slot) (is_out jobs slot) (out_has jobs n job slot there h)

any_of : {X : Type 0} (p : X → Bool) (P : Type 0) (xs : List X) → All (λ x. p x ≡ true → P) xs → list_any p xs ≡ true → P
any_of p P [] all e = absurd (false≢true e)
any_of p P (x ∷ xs) all e = elim (or_cases (p x) (list_any p xs) e) [
  | inl here ↦ All-head (λ y. p y ≡ true → P) x xs all here
  | inr later ↦ any_of p P xs (All-tail (λ y. p y ≡ true → P) x xs all) later
]

-- what is needed is taken, where the slots of the states and the jobs are
pub needed_taken : (states : List (Saved ℕ)) (jobs : Slab Guessed) (taken : List Bool) (slot : ℕ) → AreTaken states jobs taken → is_needed states jobs slot ≡ true → IsTaken taken slot
needed_taken states jobs taken slot t e = go (or_cases (is_saved states slot) (is_out jobs slot) e)
  where
    by_job : (job : Guessed) → IsHeld taken job → holds job slot ≡ true → IsTaken taken slot
    by_job job h e = elim (or_cases (job.start == slot) (is_among job.slots slot) e) [
      | inl start ↦ subst (IsTaken taken) (eqb-true job.start slot start) h.start
      | inr one ↦ any_of (λ other. other == slot) (IsTaken taken slot) job.slots (λ k d few. λ same. subst (IsTaken taken) (eqb-true (get_or job.slots k d) slot same) (h.slots k d few)) one
    ]

    go : (is_saved states slot ≡ true) ⊎ (is_out jobs slot ≡ true) → IsTaken taken slot
    go (inl saved) = any_of (λ (u : Saved ℕ). u.snapshot == slot) (IsTaken taken slot) states (λ k d few. λ same. subst (IsTaken taken) (eqb-true (get_or states k d).snapshot slot same) (t.saved k d few)) saved
    go (inr out) = any_of (λ (o : ℕ × Guessed). holds o.1 slot) (IsTaken taken slot) (entries jobs)
        (λ k d few. λ has.
        let o : ℕ × Guessed = get_or (entries jobs) k d in
        by_job o.1 (t.out o.0 o.1 ((Contains-entries jobs o.0 o.1).0 (k, few, get_or_default (entries jobs) k o d few))) has)
        out

-- what is taken after a roll
pub needed_now : (states : List (Saved ℕ)) (jobs : Slab Guessed) (limit count : ℕ) (held now : List Bool) (slots : List ℕ) → ((k : ℕ) → is_taken held k ≡ is_needed states jobs k) → slots ≡ least_free (is_needed states jobs) limit (length slots) → length slots ≡ count → ((k : ℕ) → is_taken now k ≡ (is_taken held k || is_among slots k))
    → (k : ℕ) → is_taken now k ≡ (is_needed states jobs k || is_among (least_free (is_needed states jobs) limit count) k)
needed_now states jobs limit count held now slots exact least many filled k =
    filled k
    ∙ ap (λ b. b || is_among slots k) (exact k)
    ∙ ap (λ (l : List ℕ). is_needed states jobs k || is_among l k) (least ∙ ap (least_free (is_needed states jobs) limit) many)

-- one more that isn't taken is none the more
pub one_free : (taken : List Bool) (k : ℕ) → is_taken (taken ++ false ∷ []) k ≡ is_taken taken k
one_free [] zero = refl
one_free [] (suc k) = refl
one_free (x ∷ xs) zero = refl
one_free (x ∷ xs) (suc k) = one_free xs k
