-- What a guess makes of a host with workers.
use Rattle.std.proofs.Common.{◌≡◌, ◌⊎◌, ◌∙◌, ℕ, ◌<◌, ◌≤◌, ◌^◌, List, [], ◌∷◌, ◌++◌, length, refl, ap, sym, subst, inl, inr, Option, None, Some, Result, Ok, Err}
use Rattle.std.specs.Prelude.{IsErrAnd, IsSome, nat_le, if◌then◌else◌}
use Rattle.std.proofs.lemmas.Bool.{lt-leb}
use Rattle.roll_branch.specs.Routed.{Routed}
use Rattle.roll_frame.specs.declared.refusal.Refusal.{Refusal}
use Rattle.roll_frame.specs.declared.refusal.Refusal.TheVariants.{Full, QueueRefused}
use Rattle.roll_link.specs.Linked.{Linked}
use Rattle.roll_pool.specs.Owners.{Pool, out_of}
use Rattle.roll_pool.specs.declared.owner.TheConstants.{JOBS_OUT}
use Rattle.roll_session.specs.Changes.{IsWhy}
use Rattle.roll_session.specs.Guessing.{IsCopied}
use Rattle.roll_session.specs.Seen.{Seen}
use Rattle.roll_host.specs.Guesses.{AnswersGuess, HandsOut, IsAsBefore, IsMade, IsNotSpeculated, IsTried, MakesPlace}
use Rattle.roll_host.specs.Hosted.{Hosted}

-- what an issue leaves as it is
abbrev IsIssueOf : {D : Type 0} → Pool D → Pool D → Type 0
IsIssueOf ready after = (after.places ≡ ready.places) × (after.came ≡ ready.came) × (after.withdrawn ≡ ready.withdrawn) × (ready.capacity ≤ after.capacity)

-- an error that is handed on
pub handed_on : {X : Type 0} (P : Result X Refusal → Type 0) (result : Result X Refusal) (why : Refusal) → IsErrAnd result (λ error. error ≡ why) → P (Err why) → P result
handed_on P (Ok x) why h p = absurd h
handed_on P (Err error) why h p = subst (λ e. P (Err e)) (sym h) p

module _ {D : Type 0} (job : Routed) (pool ready after : Pool D) (place : MakesPlace pool ready) where
  -- once there was a place, a job is issued
  pub job_issued : (ticket : ℕ) → ticket ≡ length ready.issued → after.issued ≡ ready.issued ++ record job { ticket = ticket } ∷ [] → IsIssueOf ready after → HandsOut (Some job) pool after (Ok (Some ticket))
  job_issued ticket number issued rest =
      record { before = pool; ready = ready; after = after; before_is = refl; new_is = refl; place = place; number = number; after_is = λ i. record { places = rest.0 i; issued = issued i; withdrawn = rest.2 i; came = rest.1 i; capacity = after.capacity }; capacity = rest.3 }

  -- or not
  pub job_dropped : (why : Refusal) → out_of ready < JOBS_OUT → why ≡ (if nat_le JOBS_OUT (out_of ready) then Full else QueueRefused) → (why ≡ QueueRefused → (2 ^ 62 ≤ length ready.issued) ⊎ (ready.capacity ≤ length ready.issued)) → after.issued ≡ ready.issued → IsIssueOf ready after
      → HandsOut (Some job) pool after (Err why)
  job_dropped why room reason queue issued rest =
      let refused : why ≡ QueueRefused = rw (lt-leb JOBS_OUT (out_of ready) room) at reason in
      let kept : IsAsBefore ready after = record { after_is = λ i. record { places = rest.0 i; issued = issued i; withdrawn = rest.2 i; came = rest.1 i; capacity = after.capacity }; capacity = rest.3 } in
      inr (refused, record { before = pool; ready = ready; after = after; before_is = refl; new_is = refl; place = place; same = kept; why = queue refused })

-- no place was free for a job
pub job_placeless : {D : Type 0} (job : Routed) (pool after : Pool D) → JOBS_OUT ≤ out_of pool → IsAsBefore pool after → HandsOut (Some job) pool after (Err Full)
job_placeless job pool after many kept = inl (refl, record { before = pool; after = after; before_is = refl; new_is = refl; many = many; same = kept })

module _ {D : Type 0} (refused : Option Refusal) (wanted : Option Routed) (s t : Seen) (links : List Linked) (pool : Pool D) where
  -- the host before, and after
  abbrev pub host : Seen → Pool D → Hosted D
  host u p = record { session = u; links = links; pool = Some p }

  module _ (same : t ≡ record s { counts = t.counts }) where
    -- a session whose game was asked for as much is as it was
    as_before : t.counts ≡ s.counts → t ≡ s
    as_before e = same ∙ (λ i. record s { counts = e i })

    -- the guess was refused
    pub guess_failed : (why : Refusal) → IsWhy refused why → (IsSome refused → t ≡ s) → IsCopied s.counts t.counts (Err why) → IsNotSpeculated refused wanted (host s pool) (host t pool) why
    guess_failed why is unasked asked = go refused refl is unasked
      where
        go : (o : Option Refusal) → refused ≡ o → IsWhy o why → (IsSome o → t ≡ s) → IsNotSpeculated refused wanted (host s pool) (host t pool) why
        go (Some first) e w unasked = inr (inl (refl, e ∙ ap Some (sym w), ap (λ (x : Seen). host x pool) (unasked refl)))
        go None e w unasked = inr (inr (inl (
          w,
          record {
            tried = record { staffed = refl; accepted = e; links = refl };
            pool = refl;
            session = elim asked [ inl e ↦ inl (as_before e) | inr e ↦ inr (same ∙ (λ i. record s { counts = e i })) ];
          },
        )))

    -- or accepted, and its job, if it has one, went to the pool
    pub guess_handed_out : refused ≡ None → (job : Option Routed) → job ≡ wanted → IsCopied s.counts t.counts (Ok job) → (after : Pool D) (said : Result (Option ℕ) Refusal) → HandsOut job pool after said → AnswersGuess refused wanted (host s pool) (host t after) said
    guess_handed_out accepted None is asked after said handed =
        let kept : host t after ≡ host s pool = λ i. host (as_before asked i) (handed.0 i) in
        subst (AnswersGuess refused wanted (host s pool) (host t after)) (sym handed.1) (record { staffed = refl; accepted = accepted; links = refl }, sym is, kept)
    guess_handed_out accepted (Some job) is asked after said handed = go said handed
      where
        tried : IsTried refused wanted (host s pool) (host t after)
        tried = record { staffed = refl; accepted = accepted; links = refl }

        made : IsMade refused wanted (host s pool) (host t after) job
        made = record { guessed = sym is; session = same ∙ (λ i. record s { counts = asked i }) }

        go : (said : Result (Option ℕ) Refusal) → HandsOut (Some job) pool after said → AnswersGuess refused wanted (host s pool) (host t after) said
        go (Ok (Some ticket)) issued = record { tried = tried; job = job; made = made; issued = issued }
        go (Ok None) none = absurd none
        go (Err why) (inl crowded) = inr (inr (inr (inl (crowded.0, record { tried = tried; job = job; made = made; crowded = crowded.1 }))))
        go (Err why) (inr unissued) = inr (inr (inr (inr (unissued.0, record { tried = tried; job = job; made = made; unissued = unissued.1 }))))
