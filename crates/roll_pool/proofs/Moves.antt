-- Each move on the deque keeps the rule.
use Rattle.std.proofs.Common.{inl, ⊎_elim, ◌≡◌, ◌≢◌, ℕ, zero, suc, ◌+◌, ◌-◌, ◌⊎◌, Bool, true, false, true≢false, List, [], ◌∷◌, ◌++◌, length, set, drop, sum_by, sym, refl, ap, ◌∙◌, subst, append_assoc, arith}
use mathlib.Core.Option.{some, some-ne-none, some-injective}
use lib.ListN.{get_elem?}
use Rattle.std.proofs.lemmas.List.{append-nil}
use Rattle.std.proofs.Math.Seq.{drop-append_seam}
use Rattle.std.proofs.lemmas.List.Sums.{sum_by-cons, sum_by-append, sum_by_push}
use Rattle.crossbeam_deque.specs.Tasks.{Pushes, Takes, Finds, Forks, Merges}
use Rattle.crossbeam_deque.proofs.Lists.{at_set, at_snoc}
use Rattle.roll_pool.specs.declared.rule.Tally.{Tally}
use Rattle.roll_pool.specs.Rule.{owner_first, worker_first, worker_spent, issuing, taking, counting_out, counting_back, FitsWorker, FitsOwner, Shares, AreLater, AreNext, HasAll}
use Rattle.roll_pool.proofs.Passes.{sum_set, sum_within, sum_only, each_set}

pub sum_ones : {T : Type 0} (xs : List T) → sum_by (λ _. 1) xs ≡ length xs
sum_ones [] = refl
sum_ones {T} (x ∷ xs) = omega (arith, sum_by-cons (λ (_ : T). 1) x xs, sum_ones xs)

-- a pass at another place isn't the owner's
not_owner : (b : Bool) → b ≢ true → b ≡ false
not_owner true n = absurd (n refl)
not_owner false n = refl

module _ {T : Type 0} where
  -- the sum of all passes' jobs, where one pass takes some more
  taken : (h : T → ℕ) (views : List (Tally T)) (port : ℕ) (v w : Tally T) (more : List T) → get_elem? views port ≡ some v → w.jobs ≡ v.jobs ++ more → sum_by (λ u. sum_by h u.jobs) (set views port w) ≡ sum_by (λ u. sum_by h u.jobs) views + sum_by h more
  taken h views port v w more at is =
      let s = sum_set (λ (u : Tally T). sum_by h u.jobs) views port v w at in
      let t : sum_by h w.jobs ≡ sum_by h v.jobs + sum_by h more = ap (sum_by h) is ∙ sum_by-append h v.jobs more in
      omega arith

  -- the count of passes that are out doesn't change with a pass that doesn't
  same_out : (views : List (Tally T)) (port : ℕ) (v w : Tally T) → get_elem? views port ≡ some v → w.out ≡ v.out → sum_by (λ u. u.out) (set views port w) ≡ sum_by (λ u. u.out) views
  same_out views port v w at is = let s = sum_set (λ (u : Tally T). u.out) views port v w at in omega arith

  pub issues : (port : ℕ) (v : Tally T) (xs : List T) → v.owns ≡ true → Pushes Shares port v xs (λ w. w ≡ issuing v xs)
  issues port v xs owns items views h at =
      let w : Tally T = issuing v xs in
      let mine = (h.fits port v at).1 owns in (
        w,
        record {
          seat = h.seat;
          issued = h.issued ++ xs;
          gone = h.gone;
          others = h.others;
          whole = ap (λ l. l ++ xs) h.whole ∙ append_assoc h.gone items xs;
          once = λ f. let s = taken f views port v w [] at (sym (append-nil v.jobs)) in omega (arith, h.once f);
          outside = same_out views port v w at refl ∙ h.outside;
          fits = each_set (λ j u. FitsWorker u × FitsOwner h.seat h.issued h.others j u) (λ j u. FitsWorker u × FitsOwner h.seat (h.issued ++ xs) h.others j u) views port w h.fits
              ((λ not. absurd (true≢false (sym owns ∙ not))), λ _. (mine.0, ap (λ l. l ++ xs) mine.1, mine.2, mine.3))
              (λ j u apart old. (old.0, λ also. absurd (apart ((old.1 also).0 ∙ sym mine.0))));
        },
        refl,
      )

  -- jobs leave at the front, into the list of the pass that takes them
  pub takes : (port : ℕ) (v : Tally T) (most : ℕ) → (v.owns ≡ true) ⊎ (v.out ≡ 1) → Takes Shares port v most (λ xs w. w ≡ taking v xs)
  takes port v most may xs items views _ _ h at =
      let w : Tally T = taking v xs in
      let mine = h.fits port v at in (
        w,
        record {
          seat = h.seat;
          issued = h.issued;
          gone = h.gone ++ xs;
          others = h.others;
          whole = h.whole ∙ sym (append_assoc h.gone xs items);
          once = λ f. let s = taken f views port v w xs at refl in omega (arith, h.once f, sum_by-append f h.gone xs);
          outside = same_out views port v w at refl ∙ h.outside;
          fits = each_set (λ j u. FitsWorker u × FitsOwner h.seat h.issued h.others j u) (λ j u. FitsWorker u × FitsOwner h.seat h.issued h.others j u) views port w h.fits
              ((λ not none. ⊎_elim (λ (o : v.owns ≡ true). absurd (true≢false (sym o ∙ not))) (λ (o : v.out ≡ 1). absurd (omega arith)) may), mine.1)
              (λ j u apart old. old);
        },
        refl,
      )

  -- the same for the owner while others are out, which learns that these jobs come after all that it has
  pub withdraws : (port : ℕ) (v : Tally T) (most : ℕ) → v.owns ≡ true → Takes Shares port v most (λ xs w. (w ≡ taking v xs) × AreLater v xs)
  withdraws port v most owns xs items views any few h at =
      let t = takes port v most (inl owns) xs items views any few h at in
      let mine = (h.fits port v at).1 owns in (
        t.0,
        t.1,
        (
          t.2,
          record {
            first = h.gone;
            rest = items;
            whole = mine.1 ∙ h.whole;
            earlier = λ f. omega (arith, h.once f, sum_within (λ (u : Tally T). sum_by f u.jobs) views port v at);
          },
        ),
      )

  others_idle : (views : List (Tally T)) → sum_by (λ (u : Tally T). u.out) views ≡ 0 → (j : ℕ) (u : Tally T) → get_elem? views j ≡ some u → u.out ≡ 0
  others_idle views none j u at' = let s = sum_within (λ (x : Tally T). x.out) views j u at' in omega arith

  -- with no other pass out, the owner has all that left the deque
  alone : (port : ℕ) (v : Tally T) (items : List T) (views : List (Tally T)) → v.owns ≡ true → v.others ≡ 0 → (h : Shares items views) → get_elem? views port ≡ some v → (f : T → ℕ) → sum_by f v.jobs ≡ sum_by f h.gone
  alone port v items views owns none h at f =
      let mine = (h.fits port v at).1 owns in
      let idle : sum_by (λ (u : Tally T). u.out) views ≡ 0 = h.outside ∙ sym mine.2 ∙ none in
      let only : sum_by (λ u. sum_by f u.jobs) views ≡ sum_by f v.jobs = sum_only (λ (u : Tally T). sum_by f u.jobs) views port v at
      (λ j u apart at'. ap (sum_by f) ((h.fits j u at').0 (not_owner u.owns (λ also. apart (((h.fits j u at').1 also).0 ∙ sym mine.0))) (others_idle views idle j u at'))) in
      sym only ∙ h.once f

  -- the same for the owner, which learns that these jobs come next
  pub takes_back : (port : ℕ) (v : Tally T) (most : ℕ) → v.owns ≡ true → Takes Shares port v most (λ xs w. (w ≡ taking v xs) × AreNext v xs)
  takes_back port v most owns xs items views any few h at =
      let t = takes port v most (inl owns) xs items views any few h at in
      let mine = (h.fits port v at).1 owns in (
        t.0,
        t.1,
        (
          t.2,
          λ none.
              let many : length v.jobs ≡ length h.gone = sym (sum_ones v.jobs) ∙ alone port v (xs ++ items) views owns none h at (λ _. 1) ∙ sum_ones h.gone in
              (items, ap (λ n. drop n v.issued) many ∙ ap (drop (length h.gone)) (mine.1 ∙ h.whole) ∙ drop-append_seam h.gone (xs ++ items)),
        ),
      )

  -- an empty deque, and no other pass that is out: the owner has every job
  pub finds : (port : ℕ) (v : Tally T) → v.owns ≡ true → Finds Shares port v (HasAll v)
  finds port v owns views h at none f =
      let mine = (h.fits port v at).1 owns in
      alone port v [] views owns none h at f ∙ ap (sum_by f) (sym (append-nil h.gone) ∙ sym h.whole ∙ sym mine.1)

  -- the owner cuts off a pass for a worker, and counts it out
  pub forks : (port : ℕ) (v : Tally T) → v.owns ≡ true → Forks Shares port v (counting_out v) worker_first
  forks port v owns items views h at =
      let left : Tally T = counting_out v in
      let vs : List (Tally T) = set views port left in
      let mine = (h.fits port v at).1 owns in
      let kept : (j : ℕ) (u : Tally T) → get_elem? vs j ≡ some u → FitsWorker u × FitsOwner h.seat h.issued (h.others + 1) j u =
      each_set (λ j u. FitsWorker u × FitsOwner h.seat h.issued h.others j u) (λ j u. FitsWorker u × FitsOwner h.seat h.issued (h.others + 1) j u) views port left h.fits
      ((λ not. absurd (true≢false (sym owns ∙ not))), λ _. (mine.0, mine.1, ap (λ n. n + 1) mine.2, mine.3))
      (λ j u apart old. (old.0, λ also. absurd (apart ((old.1 also).0 ∙ sym mine.0)))) in record {
        seat = h.seat;
        issued = h.issued;
        gone = h.gone;
        others = h.others + 1;
        whole = h.whole;
        once = λ f.
            let s = taken f views port v left [] at (sym (append-nil v.jobs)) in
            let t = sum_by_push (λ (u : Tally T). sum_by f u.jobs) vs worker_first in
            omega (arith, h.once f);
        outside = omega (arith, sum_by_push (λ (u : Tally T). u.out) vs worker_first, same_out views port v left at refl, h.outside);
        fits = λ j u at'. ⊎_elim (λ x. kept j u x)
            (λ (is : worker_first ≡ u). (
              (λ _ none. absurd (let e : u.out ≡ 1 = ap (λ (y : Tally T). y.out) (sym is) in omega arith)),
              λ also. absurd (true≢false (sym also ∙ ap (λ (y : Tally T). y.owns) (sym is))),
            ))
            (at_snoc vs worker_first u j at');
      }

  -- the owner takes in the list of a worker's pass, which is spent
  pub merges : (port : ℕ) (v : Tally T) (other : ℕ) (w : Tally T) → v.owns ≡ true → w.out ≡ 1 → Merges Shares port v other w (counting_back v w) worker_spent
  merges port v other w owns out items views h at apart at' =
      let both : Tally T = counting_back v w in
      let vs : List (Tally T) = set views port both in
      let mine = (h.fits port v at).1 owns in
      let was : get_elem? views other ≡ some w = ⊎_elim (λ x. absurd (apart x.0)) (λ x. x.1) (at_set views port other both w at') in
      let worker : w.owns ≡ false = not_owner w.owns (λ also. apart (((h.fits other w was).1 also).0 ∙ sym mine.0)) in
      let kept : (j : ℕ) (u : Tally T) → get_elem? vs j ≡ some u → FitsWorker u × FitsOwner h.seat h.issued (h.others - 1) j u =
      each_set (λ j u. FitsWorker u × FitsOwner h.seat h.issued h.others j u) (λ j u. FitsWorker u × FitsOwner h.seat h.issued (h.others - 1) j u) views port both h.fits
      ((λ not. absurd (true≢false (sym owns ∙ not))), λ _. (mine.0, mine.1, ap (λ n. n - 1) mine.2, mine.3))
      (λ j u apart old. (old.0, λ also. absurd (apart ((old.1 also).0 ∙ sym mine.0)))) in record {
        seat = h.seat;
        issued = h.issued;
        gone = h.gone;
        others = h.others - 1;
        whole = h.whole;
        once = λ f.
            let s = taken f views port v both w.jobs at refl in
            let t = sum_set (λ (u : Tally T). sum_by f u.jobs) vs other w worker_spent at' in
            omega (arith, h.once f);
        outside =
            let s = sum_set (λ (u : Tally T). u.out) vs other w worker_spent at' in
            let t = same_out views port v both at refl in
            omega (arith, h.outside);
        fits = each_set (λ j u. FitsWorker u × FitsOwner h.seat h.issued (h.others - 1) j u) (λ j u. FitsWorker u × FitsOwner h.seat h.issued (h.others - 1) j u) vs other worker_spent kept
            ((λ _ _. refl), λ also. absurd (true≢false (sym also)))
            (λ j u _ old. old);
      }

  first_alone : (j : ℕ) (u : Tally T) → get_elem? (owner_first ∷ []) j ≡ some u → FitsWorker u × FitsOwner 0 [] 0 j u
  first_alone zero u at = let is : owner_first ≡ u = some-injective owner_first u at in subst (λ (y : Tally T). FitsWorker y × FitsOwner 0 [] 0 zero y) is ((λ _ _. refl), λ _. (refl, refl, refl, refl))
  first_alone (suc j) u at = absurd (some-ne-none u (sym at))

  -- a pool begins with the owner's pass alone
  pub begins : Shares {T = T} [] (owner_first ∷ [])
  begins = record {
    seat = 0;
    issued = [];
    gone = [];
    others = 0;
    whole = refl;
    once = λ f. refl;
    outside = refl;
    fits = λ j u at. first_alone j u at;
  }
