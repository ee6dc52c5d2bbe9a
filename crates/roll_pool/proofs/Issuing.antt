-- One more job is issued.
use Rattle.std.proofs.Common.{◌≡◌, ℕ, zero, suc, true, ◌+◌, ◌≤◌, ◌<◌, ◌^◌, [], ◌∷◌, ◌++◌, map, length, sym, ap, ◌∙◌, add-one, length-append, arith}
use Rattle.std.specs.List.{range_with_len}
use Rattle.std.proofs.lemmas.List.{map-append}
use Rattle.roll_branch.specs.Routed.{Routed}
use Rattle.roll_pool.specs.declared.rule.Tally.{Tally}
use Rattle.roll_pool.specs.declared.owner.TheConstants.{JOBS_OUT}
use Rattle.roll_pool.specs.Rule.{tally, issuing}
use Rattle.roll_pool.specs.Owners.{IsSound}

pub range_more : (a n : ℕ) → range_with_len a (n + 1) ≡ range_with_len a n ++ (a + n) ∷ []
range_more a zero = ap (λ k. k ∷ []) (omega arith)
range_more a (suc n) =
    rw add-one (ap (λ l. a ∷ l) (ap (range_with_len (a + 1)) (sym (add-one n)) ∙ range_more (a + 1) n ∙ ap (λ k. range_with_len (a + 1) n ++ k ∷ []) (omega arith)))

pub sound_more : (v w : Tally Routed) (flavor flavor' index index' capacity capacity' workers issued collected withdrawn : ℕ) (job : Routed) → IsSound v flavor index capacity workers issued collected withdrawn
    → w ≡ issuing v (job ∷ []) → job.ticket ≡ issued → flavor' ≡ flavor → index' ≡ index + 1 → capacity ≤ capacity' → issued < (collected + withdrawn) + JOBS_OUT → issued < 2 ^ 62 → IsSound w flavor' index' capacity' workers (issued + 1) collected withdrawn
sound_more v w flavor flavor' index index' capacity capacity' workers issued collected withdrawn job was is number fifo next wider room few =
    let one = job ∷ [] in
    let jobs : w.issued ≡ v.issued ++ one = ap (λ (u : Tally Routed). u.issued) is in
    let same : w.jobs ≡ v.jobs = ap (λ (u : Tally Routed). u.jobs) is in record {
      knows = is ∙ ap (λ (u : Tally Routed). issuing u one) was.knows ∙ (λ i. tally true (sym jobs i) workers 0 (sym same i));
      fifo = fifo ∙ was.fifo;
      next = omega (arith, next, was.next);
      places = omega (arith, was.places);
      many = ap length jobs ∙ length-append v.issued one ∙ ap (λ n. n + 1) was.many;
      numbered = ap (map (λ (j : Routed). j.ticket)) jobs ∙ map-append (λ (j : Routed). j.ticket) v.issued one ∙ ap (λ l. l ++ job.ticket ∷ []) was.numbered ∙ ap (λ n. range_with_len 0 issued ++ n ∷ []) (omega (arith, number)) ∙ sym (range_more 0 issued);
      back = ap length same ∙ was.back;
      taken = omega (arith, was.taken);
      few = omega (arith, room);
      most = omega (arith, few);
      team = was.team;
    }
