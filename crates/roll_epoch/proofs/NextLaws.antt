-- Who knows the same of where players left before the end opens the same next epoch.
use Rattle.std.proofs.Common.{◌≡◌, ℕ, suc, ◌+◌, ◌%◌, ◌^◌, ◌<◌, ◌≤◌, List, [], ◌∷◌, ◌++◌, Bool, length, refl, sym, ap, ◌∙◌, arith, inl, inr, Option, Some, None}
use Rattle.std.specs.Prelude.{◌⊎◌, ◌&&◌, ◌||◌, ◌==◌, min, not, nat_lt, if◌then◌else◌, slice_index_or}
use Rattle.std.specs.Int.{w32, w64, to_be_bytes}
use Rattle.std.specs.List.{list_all, range_with_len}
use Rattle.std.proofs.lemmas.Bool.{cases_lt, le-ltb, lt-ltb}
use Rattle.std.proofs.lemmas.List.Concat.{flat_map-cons}
use Rattle.sha2.specs.Sha256.{sha256}
use Rattle.roll_mesh.specs.declared.limits.TheConstants.{PLAYER_LIMIT}
use Rattle.roll_wire.specs.Spelling.{mark}
use Rattle.roll_epoch.specs.Ends.{owner_of}
use Rattle.roll_epoch.specs.Ids.{first_number, leaving_at, leavings, next_id}
use Rattle.roll_epoch.specs.Laws.{LeftAlike, OfOnePastOneNext}
use Rattle.roll_epoch.specs.Successions.{come, each_player, has_left_before, is_no_loss_at, kept_owner, kept_owners, next_delays, next_owners, next_threshold, stays, successor}
use Rattle.roll_epoch.specs.declared.limits.TheConstants.{FREE, NO_MACHINE}
use Rattle.roll_epoch.specs.declared.marks.Ending.{Ending}
use Rattle.roll_epoch.specs.declared.terms.Terms.{Terms}

-- ---- who stays

before_is : (end : ℕ) (left : Option ℕ) → has_left_before end left ≡ nat_lt (leaving_at end left) end
before_is end None = sym (le-ltb end end (omega arith))
before_is end (Some at) = go (cases_lt at end)
  where
    go : (at < end) ⊎ (end ≤ at) → nat_lt at end ≡ nat_lt (min at end) end
    go (inl l) = lt-ltb at end l ∙ sym (lt-ltb (min at end) end (omega (arith, l)))
    go (inr g) = le-ltb at end g ∙ sym (le-ltb (min at end) end (omega (arith, g)))

module _ (end : ℕ) (left other : List (Option ℕ)) (alike : LeftAlike end left other) where
  before_same : (p : ℕ) → has_left_before end (slice_index_or left p None) ≡ has_left_before end (slice_index_or other p None)
  before_same p =
      before_is end (slice_index_or left p None)
      ∙ (ap (λ (n : ℕ). nat_lt n end) (alike.places p) ∙ sym (before_is end (slice_index_or other p None)))

  loss_same : (owners : List ℕ) (m p : ℕ) → is_no_loss_at owners left end m p ≡ is_no_loss_at owners other end m p
  loss_same owners m p = ap (λ (b : Bool). not ((owner_of owners p == m) && b)) (before_same p)

  stays_same : (owners : List ℕ) (m : ℕ) → stays owners left end m ≡ stays owners other end m
  unfolding stays
  stays_same owners m =
      ap (λ (test : ℕ → Bool). list_all test (range_with_len 0 PLAYER_LIMIT)) (λ k p. loss_same owners m p k)

  kept_at : (owners : List ℕ) (p : ℕ) → kept_owner owners left end p ≡ kept_owner owners other end p
  kept_at owners p =
      ap (λ (b : Bool). if (owner_of owners p == NO_MACHINE) || b then owner_of owners p else FREE)
      (stays_same owners (owner_of owners p))

  kept_same : (owners : List ℕ) → kept_owners owners left end ≡ kept_owners owners other end
  kept_same owners = ap (λ (f : ℕ → ℕ). each_player f) (λ k p. kept_at owners p k)

-- ---- the number

leavings_same : (end : ℕ) (xs ys : List (Option ℕ)) → length xs ≡ length ys
    → ((p : ℕ) → leaving_at end (slice_index_or xs p None) ≡ leaving_at end (slice_index_or ys p None))
    → leavings end xs ≡ leavings end ys
leavings_same end [] [] l h = refl
leavings_same end [] (y ∷ ys) l h = absurd (omega (arith, l))
leavings_same end (x ∷ xs) [] l h = absurd (omega (arith, l))
leavings_same end (x ∷ xs) (y ∷ ys) l h =
    let text : Option ℕ → List ℕ = λ at. to_be_bytes w32 (leaving_at end at) in
    let first : text x ≡ text y = ap (λ (n : ℕ). to_be_bytes w32 n) (h 0) in
    let others : leavings end xs ≡ leavings end ys = leavings_same end xs ys (omega (arith, l)) (λ p. h (suc p)) in
    flat_map-cons text x xs ∙ ((λ k. first k ++ others k) ∙ sym (flat_map-cons text y ys))

id_same : (id : ℕ) (e : Ending) (left other : List (Option ℕ)) → LeftAlike e.frame left other
    → next_id id e left ≡ next_id id e other
id_same id e left other alike =
    ap (λ (bytes : List ℕ). first_number (sha256 (to_be_bytes w64 id ++ (to_be_bytes w32 e.frame ++ (mark e.mark ++ bytes)))))
    (leavings_same e.frame left other alike.many alike.places)

-- ---- the law

owners_same : (terms : Terms) (e : Ending) (left other : List (Option ℕ)) → LeftAlike e.frame left other
    → next_owners terms e left ≡ next_owners terms e other
unfolding next_owners
owners_same terms e left other alike = ap (come terms.words e.mark.newcomer) (kept_same e.frame left other alike terms.owners)

pub of_one_past_one_next : OfOnePastOneNext
unfolding successor
of_one_past_one_next terms e left other alike =
    let id = id_same terms.id e left other alike in
    let kept = kept_same e.frame left other alike terms.owners in
    let owners = owners_same terms e left other alike in
    λ k. record {
      id = id k;
      base = (terms.base + e.frame) % 2 ^ 64;
      owners = owners k;
      delays = next_delays terms e.mark (kept k) (owners k);
      threshold = next_threshold terms e.mark;
      words = terms.words;
    }
