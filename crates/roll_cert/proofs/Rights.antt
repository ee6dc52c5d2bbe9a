-- A right claim has no flaw, and a claim without a flaw is right.
use Rattle.std.proofs.Common.{◌≡◌, ◌≢◌, ◌⊎◌, ◌||◌, ℕ, zero, suc, ◌+◌, ◌<◌, ◌≤◌, List, [], ◌∷◌, length, take, get_or, Bool, true, false, cond, Option, Some, None, nat_eq, refl, sym, ap, subst, ◌∙◌, inl, inr, arith, add-one}
use Rattle.std.specs.Prelude.{slice_get, IsSomeAnd}
use Rattle.std.specs.List.{list_any, count_by}
use Rattle.std.proofs.lemmas.Bool.{cases_Bool, cases_lt, false≢true, eq-eqb}
use Rattle.std.proofs.lemmas.Bool.Decides.{eqb_tells}
use Rattle.std.proofs.lemmas.List.Sums.{sum_by-cons, sum_by-take-le, count_by_more_yes, count_by_more_no}
use Rattle.std.proofs.lemmas.Option.{same_Some, slice_get-get_or, slice_get_within, get_or_from_slice_get}
use Rattle.std.proofs.Math.Seq.{take-length}
use Rattle.roll_frame.specs.declared.path.Path.{Path}
use Rattle.roll_frame.specs.declared.claim.Claim.{Claim}
use Rattle.roll_frame.specs.declared.claim.Differ.{Differ}
use Rattle.roll_frame.specs.Claims.{IsShaped, IsRight, IsTrueEntry, is_start, is_for, IsSame}
use Rattle.roll_cert.specs.declared.checking.Flaw.{Flaw}
use Rattle.roll_cert.specs.declared.checking.Flaw.TheVariants.{Shape, FromNotKept, Range, Equal, Twice, Missing}
use Rattle.roll_cert.specs.Flaws.{IsInRange, HasFlaw, IsFirst, ComesBefore, stage, place, turn}
use Rattle.roll_cert.specs.Checked.{IsGood, AreGood, AreNamed, IsFlawOf}
use Rattle.roll_cert.proofs.Entries.{only}

abbrev counted : Bool → ℕ
counted b = cond b 1 0

count-cons : (p : Differ → Bool) (x : Differ) (xs : List Differ) → count_by p (x ∷ xs) ≡ counted (p x) + count_by p xs
count-cons p x xs = sum_by-cons (λ y. cond (p y) 1 0) x xs

count_none : (p : Differ → Bool) (xs : List Differ) → list_any p xs ≡ false → count_by p xs ≡ 0
count_none p [] h = refl
count_none p (x ∷ xs) h = count-cons p x xs ∙ go (cases_Bool (p x)) (count_none p xs)
  where
    go : (p x ≡ true) ⊎ (p x ≡ false) → (list_any p xs ≡ false → count_by p xs ≡ 0) → counted (p x) + count_by p xs ≡ 0
    go (inl e) rest = absurd (false≢true (sym h ∙ ap (λ (b : Bool). b || list_any p xs) e))
    go (inr e) rest =
        let one : counted (p x) ≡ 0 = ap counted e in
        let none : count_by p xs ≡ 0 = rest (sym (ap (λ (b : Bool). b || list_any p xs) e) ∙ h) in
        omega arith

count_some : (p : Differ → Bool) (xs : List Differ) → list_any p xs ≡ true → 1 ≤ count_by p xs
count_some p [] h = absurd (false≢true h)
count_some p (x ∷ xs) h = subst (λ (n : ℕ). 1 ≤ n) (sym (count-cons p x xs)) (go (cases_Bool (p x)) (count_some p xs))
  where
    go : (p x ≡ true) ⊎ (p x ≡ false) → (list_any p xs ≡ true → 1 ≤ count_by p xs) → 1 ≤ counted (p x) + count_by p xs
    go (inl e) rest =
        let one : counted (p x) ≡ 1 = ap counted e in
        omega arith
    go (inr e) rest =
        let some : 1 ≤ count_by p xs = rest (sym (ap (λ (b : Bool). b || list_any p xs) e) ∙ h) in
        omega arith

-- one more entry whose state none of those before it names
once-step : (xs : List Differ) (state n : ℕ) (entry : Differ) → n < length xs → get_or xs n entry ≡ entry → list_any (is_for entry.state) (take n xs) ≡ false
    → count_by (is_for state) (take n xs) ≤ 1 → ((nat_eq entry.state state ≡ true) × (entry.state ≡ state)) ⊎ ((nat_eq entry.state state ≡ false) × (entry.state ≢ state))
    → count_by (is_for state) (take (n + 1) xs) ≤ 1
once-step xs state n entry below read fresh few (inl same) =
    let here : is_for state (get_or xs n entry) ≡ true = ap (λ (e : Differ). is_for state e) read ∙ same.0 in
    let more = count_by_more_yes (is_for state) xs n entry below here in
    let none : count_by (is_for state) (take n xs) ≡ 0 = count_none (is_for state) (take n xs) (subst (λ (k : ℕ). list_any (is_for k) (take n xs) ≡ false) same.1 fresh) in
    omega arith
once-step xs state n entry below read fresh few (inr other) =
    let here : is_for state (get_or xs n entry) ≡ false = ap (λ (e : Differ). is_for state e) read ∙ other.0 in
    let more = count_by_more_no (is_for state) xs n entry below here in
    omega arith

entry_at : (xs : List Differ) (j : ℕ) → j < length xs → (entry : Differ) × (slice_get xs j ≡ Some entry)
entry_at [] j h = absurd (omega arith)
entry_at (x ∷ xs) zero h = (x, refl)
entry_at (x ∷ xs) (suc j) h = entry_at xs j (omega arith)

at_most_one : (claim : Claim) (state : ℕ) → AreGood claim (length claim.differs) → (n : ℕ) → n ≤ length claim.differs → count_by (is_for state) (take n claim.differs) ≤ 1
at_most_one claim state good zero within = omega arith
at_most_one claim state good (suc n) within =
    let found = entry_at claim.differs n (omega arith) in
    subst (λ (k : ℕ). count_by (is_for state) (take k claim.differs) ≤ 1) (add-one n)
    (once-step claim.differs state n found.0 (omega arith) (get_or_from_slice_get claim.differs n found.0 found.0 found.1)
    (good n found.0 (omega arith) found.1).once (at_most_one claim state good n (omega arith)) (eqb_tells found.0.state state))

true_entry : (claim : Claim) (j : ℕ) (entry : Differ) → IsGood claim j entry → IsSomeAnd (slice_get claim.kept entry.state) (IsTrueEntry claim entry)
true_entry claim j entry good =
    subst (λ (o : Option Path). IsSomeAnd o (IsTrueEntry claim entry)) (sym good.range.0)
    (record { on_path = good.range.1; differs = good.differs })

pub right : (claim : Claim) → IsShaped claim → list_any (is_start claim) claim.kept ≡ true → AreGood claim (length claim.differs) → AreNamed claim (length claim.kept) → IsRight claim
right claim shaped start good named =
    record {
      shape = shaped;
      start = start;
      entries = λ k d below. true_entry claim k (get_or claim.differs k d) (good k (get_or claim.differs k d) below (slice_get-get_or claim.differs k d below));
      once = λ place path there deeper.
          let few : count_by (is_for place) claim.differs ≤ 1 =
          subst (λ (xs : List Differ). count_by (is_for place) xs ≤ 1) (take-length claim.differs) (at_most_one claim place good (length claim.differs) (omega arith)) in
          let some : 1 ≤ count_by (is_for place) claim.differs = count_some (is_for place) claim.differs (named place path (slice_get_within claim.kept place path there) there deeper) in
          omega arith;
    }

-- an entry without a flaw has none
not_good : (claim : Claim) (i : ℕ) (entry : Differ) → slice_get claim.differs i ≡ Some entry → IsGood claim i entry → (flaw : Flaw) → stage flaw ≡ 2 → place flaw ≡ i → HasFlaw claim flaw → ⊥
not_good claim i entry there good Shape of_entry at has = absurd (omega arith)
not_good claim i entry there good FromNotKept of_entry at has = absurd (omega arith)
not_good claim i entry there good (Range k) of_entry at has = only claim k i entry (λ (e : Differ). (p : Path) → IsInRange claim e p → ⊥) at there has good.path good.range
not_good claim i entry there good (Equal k) of_entry at has =
    let found = only claim k i entry (λ (e : Differ). (p : Path) × IsInRange claim e p × IsSame claim e p) at there has in
    let same : found.0 ≡ good.path = same_Some found.0 good.path (sym found.1.0 ∙ good.range.0) in
    good.differs (subst (λ (p : Path). IsSame claim entry p) same found.2)
not_good claim i entry there good (Twice k) of_entry at has =
    let named = only claim k i entry (λ (e : Differ). list_any (is_for e.state) (take k claim.differs) ≡ true) at there has in
    false≢true (sym good.once ∙ subst (λ (m : ℕ). list_any (is_for entry.state) (take m claim.differs) ≡ true) at named)
not_good claim i entry there good (Missing k) of_entry at has = absurd (omega arith)

-- a flaw of an entry is of one that the claim has
entry_of_flaw : (claim : Claim) (flaw : Flaw) → stage flaw ≡ 2 → HasFlaw claim flaw → (entry : Differ) × (slice_get claim.differs (place flaw) ≡ Some entry)
entry_of_flaw claim Shape of_entry has = absurd (omega arith)
entry_of_flaw claim FromNotKept of_entry has = absurd (omega arith)
entry_of_flaw claim (Range k) of_entry (entry, there, rest) = (entry, there)
entry_of_flaw claim (Equal k) of_entry (entry, there, rest) = (entry, there)
entry_of_flaw claim (Twice k) of_entry (entry, there, rest) = (entry, there)
entry_of_flaw claim (Missing k) of_entry has = absurd (omega arith)

-- where the first n entries have no flaw, no flaw is of one of them
not_among : (claim : Claim) (n : ℕ) → AreGood claim n → (flaw : Flaw) → stage flaw ≡ 2 → place flaw < n → HasFlaw claim flaw → ⊥
not_among claim n good flaw of_entry below has =
    let found = entry_of_flaw claim flaw of_entry has in
    not_good claim (place flaw) found.0 found.1 (good (place flaw) found.0 below found.1) flaw of_entry refl has

not_early : (claim : Claim) → IsShaped claim → list_any (is_start claim) claim.kept ≡ true → (flaw : Flaw) → stage flaw < 2 → HasFlaw claim flaw → ⊥
not_early claim shaped start Shape early has = has shaped
not_early claim shaped start FromNotKept early has = false≢true (sym has ∙ start)
not_early claim shaped start (Range k) early has = absurd (omega arith)
not_early claim shaped start (Equal k) early has = absurd (omega arith)
not_early claim shaped start (Twice k) early has = absurd (omega arith)
not_early claim shaped start (Missing k) early has = absurd (omega arith)

pub first_shape : (claim : Claim) → (IsShaped claim → ⊥) → IsFirst claim Shape
first_shape claim has = record { has = has; first = λ other before. absurd (no other before) }
  where
    no : (other : Flaw) → ComesBefore other Shape → ⊥
    no other (inl before) = omega arith
    no other (inr (same, inl before)) = omega arith
    no other (inr (same, inr (at, before))) = omega arith

pub first_start : (claim : Claim) → IsShaped claim → list_any (is_start claim) claim.kept ≡ false → IsFirst claim FromNotKept
first_start claim shaped none = record { has = none; first = no }
  where
    no : (other : Flaw) → ComesBefore other FromNotKept → HasFlaw claim other → ⊥
    no Shape before has = has shaped
    no FromNotKept (inl before) has = absurd (omega arith)
    no FromNotKept (inr (same, inl before)) has = absurd (omega arith)
    no FromNotKept (inr (same, inr (at, before))) has = absurd (omega arith)
    no (Range k) (inl before) has = absurd (omega arith)
    no (Range k) (inr (same, rest)) has = absurd (omega arith)
    no (Equal k) (inl before) has = absurd (omega arith)
    no (Equal k) (inr (same, rest)) has = absurd (omega arith)
    no (Twice k) (inl before) has = absurd (omega arith)
    no (Twice k) (inr (same, rest)) has = absurd (omega arith)
    no (Missing k) (inl before) has = absurd (omega arith)
    no (Missing k) (inr (same, rest)) has = absurd (omega arith)

pub first_entry : (claim : Claim) (j : ℕ) (flaw : Flaw) → IsShaped claim → list_any (is_start claim) claim.kept ≡ true → AreGood claim j → IsFlawOf claim j flaw → IsFirst claim flaw
first_entry claim j flaw shaped start good here = record { has = here.has; first = no }
  where
    no : (other : Flaw) → ComesBefore other flaw → HasFlaw claim other → ⊥
    no other (inl before) has = not_early claim shaped start other (omega (arith, here.of_entry)) has
    no other (inr (same, inl before)) has = not_among claim j good other (omega (arith, here.of_entry)) (omega (arith, here.at)) has
    no other (inr (same, inr (at, before))) has = here.first other (omega (arith, here.of_entry)) (omega (arith, here.at)) before has

not_named : (claim : Claim) (n : ℕ) → AreNamed claim n → (flaw : Flaw) → stage flaw ≡ 3 → place flaw < n → HasFlaw claim flaw → ⊥
not_named claim n named Shape missing below has = absurd (omega arith)
not_named claim n named FromNotKept missing below has = absurd (omega arith)
not_named claim n named (Range k) missing below has = absurd (omega arith)
not_named claim n named (Equal k) missing below has = absurd (omega arith)
not_named claim n named (Twice k) missing below has = absurd (omega arith)
not_named claim n named (Missing k) missing below (path, there, deeper, none) = false≢true (sym none ∙ named k path below there deeper)

pub first_missing : (claim : Claim) (i : ℕ) → IsShaped claim → list_any (is_start claim) claim.kept ≡ true → AreGood claim (length claim.differs) → AreNamed claim i → HasFlaw claim (Missing i) → IsFirst claim (Missing i)
first_missing claim i shaped start good named has' = record { has = has'; first = λ other before. no other before (early other) }
  where
    early : (other : Flaw) → (stage other < 2) ⊎ (stage other ≡ 2) ⊎ (stage other ≡ 3)
    early Shape = inl (omega arith)
    early FromNotKept = inl (omega arith)
    early (Range k) = inr (inl refl)
    early (Equal k) = inr (inl refl)
    early (Twice k) = inr (inl refl)
    early (Missing k) = inr (inr refl)

    late : (other : Flaw) → stage other ≡ 3 → turn other ≡ 0
    late Shape h = refl
    late FromNotKept h = refl
    late (Range k) h = refl
    late (Equal k) h = absurd (omega arith)
    late (Twice k) h = absurd (omega arith)
    late (Missing k) h = refl

    no : (other : Flaw) → ComesBefore other (Missing i) → (stage other < 2) ⊎ (stage other ≡ 2) ⊎ (stage other ≡ 3) → HasFlaw claim other → ⊥
    no other before (inl e) has = not_early claim shaped start other e has
    no other before (inr (inl e)) has =
        let found = entry_of_flaw claim other e has in
        not_among claim (length claim.differs) good other e (slice_get_within claim.differs (place other) found.0 found.1) has
    no other (inl before) (inr (inr e)) has = absurd (omega arith)
    no other (inr (same, inl before)) (inr (inr e)) has = not_named claim i named other e before has
    no other (inr (same, inr (at, before))) (inr (inr e)) has = absurd (omega (arith, late other e))

-- a right claim has no flaw
true_at : (claim : Claim) (j : ℕ) (entry : Differ) → IsRight claim → slice_get claim.differs j ≡ Some entry → IsSomeAnd (slice_get claim.kept entry.state) (IsTrueEntry claim entry)
true_at claim j entry right there =
    subst (λ (e : Differ). IsSomeAnd (slice_get claim.kept e.state) (IsTrueEntry claim e)) (get_or_from_slice_get claim.differs j entry entry there)
    (right.entries j entry (slice_get_within claim.differs j entry there))

in_some : (o : Option Path) (P : Path → Type 0) → IsSomeAnd o P → (path : Path) × (o ≡ Some path) × P path
in_some None P h = absurd h
in_some (Some path) P h = (path, refl, h)

twice_counts : (xs : List Differ) (j : ℕ) (entry : Differ) → slice_get xs j ≡ Some entry → list_any (is_for entry.state) (take j xs) ≡ true → 2 ≤ count_by (is_for entry.state) xs
twice_counts xs j entry there named =
    let within : j < length xs = slice_get_within xs j entry there in
    let same : is_for entry.state (get_or xs j entry) ≡ true = ap (λ (e : Differ). is_for entry.state e) (get_or_from_slice_get xs j entry entry there) ∙ eq-eqb entry.state entry.state refl in
    let more = count_by_more_yes (is_for entry.state) xs j entry within same in
    let some : 1 ≤ count_by (is_for entry.state) (take j xs) = count_some (is_for entry.state) (take j xs) named in
    let part : count_by (is_for entry.state) (take (j + 1) xs) ≤ count_by (is_for entry.state) xs = sum_by-take-le (λ (e : Differ). cond (is_for entry.state e) 1 0) xs (j + 1) in
    omega arith

pub wrong : (claim : Claim) (flaw : Flaw) → HasFlaw claim flaw → IsRight claim → ⊥
wrong claim Shape has right = has right.shape
wrong claim FromNotKept has right = false≢true (sym has ∙ right.start)
wrong claim (Range j) (entry, there, none) right =
    let found = in_some (slice_get claim.kept entry.state) (IsTrueEntry claim entry) (true_at claim j entry right there) in
    none found.0 (found.1, found.2.on_path)
wrong claim (Equal j) (entry, there, (path, range, same)) right =
    let found = in_some (slice_get claim.kept entry.state) (IsTrueEntry claim entry) (true_at claim j entry right there) in
    found.2.differs (subst (λ (p : Path). IsSame claim entry p) (same_Some path found.0 (sym range.0 ∙ found.1)) same)
wrong claim (Twice j) (entry, there, named) right =
    let found = in_some (slice_get claim.kept entry.state) (IsTrueEntry claim entry) (true_at claim j entry right there) in
    let one : count_by (is_for entry.state) claim.differs ≡ 1 = right.once entry.state found.0 found.1 found.2.on_path.deeper in
    let two : 2 ≤ count_by (is_for entry.state) claim.differs = twice_counts claim.differs j entry there named in
    omega arith
wrong claim (Missing i) (path, there, deeper, none) right =
    let one : count_by (is_for i) claim.differs ≡ 1 = right.once i path there deeper in
    let zero : count_by (is_for i) claim.differs ≡ 0 = count_none (is_for i) claim.differs none in
    omega arith

-- a flaw is told by its stage, its place and its turn
abbrev flaw_at : ℕ → ℕ → ℕ → Flaw
flaw_at zero at turn = Shape
flaw_at (suc zero) at turn = FromNotKept
flaw_at (suc (suc zero)) at zero = Range at
flaw_at (suc (suc zero)) at (suc zero) = Equal at
flaw_at (suc (suc zero)) at (suc (suc turn)) = Twice at
flaw_at (suc (suc (suc k))) at turn = Missing at

is_flaw_at : (flaw : Flaw) → flaw_at (stage flaw) (place flaw) (turn flaw) ≡ flaw
is_flaw_at Shape = refl
is_flaw_at FromNotKept = refl
is_flaw_at (Range j) = refl
is_flaw_at (Equal j) = refl
is_flaw_at (Twice j) = refl
is_flaw_at (Missing i) = refl

same_flaw : (flaw other : Flaw) → stage flaw ≡ stage other → place flaw ≡ place other → turn flaw ≡ turn other → flaw ≡ other
same_flaw flaw other s p t = sym (is_flaw_at flaw) ∙ (cc) ∙ is_flaw_at other

order_cases : (a b : ℕ) → (a < b) ⊎ ((b < a) ⊎ (a ≡ b))
order_cases a b = elim (cases_lt a b) [
  | inl below ↦ inl below
  | inr above ↦ elim (cases_lt b a) [ inl below ↦ inr (inl below) | inr same ↦ inr (inr (omega arith)) ]
]

-- a claim has one first flaw
pub only_first : (claim : Claim) (flaw other : Flaw) → IsFirst claim flaw → IsFirst claim other → flaw ≡ other
only_first claim flaw other first second = by_stage (order_cases (stage flaw) (stage other))
  where
    earlier : ComesBefore flaw other → flaw ≡ other
    earlier before = absurd (second.first flaw before first.has)

    later : ComesBefore other flaw → flaw ≡ other
    later before = absurd (first.first other before second.has)

    by_turn : stage flaw ≡ stage other → place flaw ≡ place other → (turn flaw < turn other) ⊎ ((turn other < turn flaw) ⊎ (turn flaw ≡ turn other)) → flaw ≡ other
    by_turn s p (inl t) = earlier (inr (s, inr (p, t)))
    by_turn s p (inr (inl t)) = later (inr (sym s, inr (sym p, t)))
    by_turn s p (inr (inr t)) = same_flaw flaw other s p t

    by_place : stage flaw ≡ stage other → (place flaw < place other) ⊎ ((place other < place flaw) ⊎ (place flaw ≡ place other)) → flaw ≡ other
    by_place s (inl p) = earlier (inr (s, inl p))
    by_place s (inr (inl p)) = later (inr (sym s, inl p))
    by_place s (inr (inr p)) = by_turn s p (order_cases (turn flaw) (turn other))

    by_stage : (stage flaw < stage other) ⊎ ((stage other < stage flaw) ⊎ (stage flaw ≡ stage other)) → flaw ≡ other
    by_stage (inl s) = earlier (inl s)
    by_stage (inr (inl s)) = later (inl s)
    by_stage (inr (inr s)) = by_place s (order_cases (place flaw) (place other))
