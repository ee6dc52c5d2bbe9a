-- What a guess and its job come to.
use Rattle.std.specs.Prelude.{◌≡◌, ◌≢◌, ◌⊎◌, ℕ, ◌+◌, ◌-◌, ◌%◌, ◌^◌, ℤ, List, [], Option, Some, None, Result, Ok, Err, IfErr, IfOk, OnErr, OnOk, pos, MatchOption}
use Rattle.roll_branch.specs.Routed.{Routed}
use Rattle.roll_frame.specs.Codes.{code_of}
use Rattle.roll_frame.specs.declared.refusal.Refusal.{Refusal}
use Rattle.roll_requests.specs.Asked.{rows_to_run, IsHandedIn, IsNotGuessed, IsNumbered, SameTaken}
use Rattle.roll_requests.specs.Declined.{refusal_of}
use Rattle.roll_requests.specs.Made.{KeepsLeading}
use Rattle.roll_requests.specs.Requests.{Adds}
use Rattle.roll_requests.specs.declared.declined.Declined.{Declined}
use Rattle.roll_session.specs.Gameless.{still}
use Rattle.roll_session.specs.Guessing.{guess_job_of, guess_refusal_of}
use Rattle.roll_session.specs.declared.event.Grafted.{Grafted}
use Rattle.slab.specs.Slab.{get, SameValues, Updates}
use Rattle.fazgrond_c.specs.Made.{asked}
use Rattle.fazgrond_c.specs.declared.live.Live.{Live}

-- the code of a guess: 203 if there is nothing to run
abbrev pub code_of_guess : Result (Option ℕ) Declined → ℤ
code_of_guess (Ok (Some number)) = pos 0
code_of_guess (Ok None) = pos 203
code_of_guess (Err why) = pos (code_of (refusal_of why))

-- the number that a job has outside, where so much is added to each
abbrev pub outside : (first number : ℕ) → ℕ
outside first number = (first + number) % 2 ^ 32

-- the number that it has inside
abbrev pub inside : (first number : ℕ) → ℕ
inside first number = (number + (2 ^ 32 - first)) % 2 ^ 32

-- the number of a guess's job is written, if there is a job
abbrev pub number_in : (first : ℕ) → Result (Option ℕ) Declined → ℕ → ℕ
number_in first (Ok (Some number)) before = outside first number
number_in first (Ok None) before = before
number_in first (Err why) before = before

-- a guess with this refusal, if it is refused, and this job, if there is anything to run, was made of an open session
pub record IsJobAsked (refusal : Option Refusal) (job : Option Routed) (old new : Live) (before after : ℕ) (code : ℤ)
    : Type 0 where
  pub result : Result (Option ℕ) Declined
  pub numbered : IfOk result (IsNumbered job old.session new.session)
  pub accepted : OnOk result (refusal ≡ None)
  pub adds : OnOk result (Adds old.session.limit 0 (rows_to_run job)
      old.session.jobs old.session.requests new.session.requests)
  pub declined : IfErr result (IsNotGuessed refusal job old.session)
  pub unasked : OnErr result (new.session.requests ≡ old.session.requests)
  pub unchanged : OnErr result (SameValues old.session.jobs new.session.jobs)
  pub taken : OnErr result (SameTaken old.session.taken new.session.taken)
  pub rest : new ≡ record old {
    session = record old.session {
      requests = new.session.requests;
      jobs = new.session.jobs;
      taken = new.session.taken;
    };
  }
  pub leads : KeepsLeading old.session new.session
  pub code_is : code ≡ code_of_guess result
  pub written : after ≡ number_in old.first_job result before

-- if this player gave these words next
abbrev pub IsGuessed : (player : ℕ) → (words : List ℕ) → (until : ℕ) → (old new : Live) → (before after : ℕ) → ℤ → Type 0
IsGuessed player words until old new before after code =
    IsJobAsked (guess_refusal_of old.session.seen player words until)
    (guess_job_of still old.session.seen player words until) old new before after code

-- the code of a graft
abbrev pub code_of_graft : Result Grafted Refusal → ℤ
code_of_graft (Ok grafted) = pos 0
code_of_graft (Err why) = pos (code_of why)

-- how many states a graft added is written
abbrev pub added_in : Result Grafted Refusal → ℕ → ℕ
added_in (Ok grafted) before = grafted.added
added_in (Err why) before = before

-- a job's branch was handed in, and the job is gone
pub record IsHandedOver (job : ℕ) (old new : Live) (before after : ℕ) (code : ℤ) : Type 0 where
  pub result : Result Grafted Refusal
  pub grafted : IsHandedIn old.session.seen new.session.seen (get old.session.jobs (inside old.first_job job)) result
  pub jobs : Updates old.session.jobs new.session.jobs (inside old.first_job job) None
  pub rest : new ≡ record old {
    session = record old.session {
      seen = new.session.seen;
      saves = new.session.saves;
      jobs = new.session.jobs;
    };
  }
  pub leads : KeepsLeading old.session new.session
  pub code_is : code ≡ code_of_graft result
  pub written : after ≡ added_in result before

-- nothing is done, if requests were not taken yet
abbrev pub IsGrafted : (job : ℕ) → (old new : Live) → (before after : ℕ) → (code : ℤ) → Type 0
IsGrafted job old new before after code =
    ((asked old ≢ []) × ((code ≡ pos 202) × ((new ≡ old) × (after ≡ before))))
    ⊎ ((asked old ≡ []) × IsHandedOver job old new before after code)

-- a job is given up, if there is one of this number
pub record IsForgotten (job : ℕ) (old new : Live) (code : ℤ) : Type 0 where
  pub jobs : Updates old.session.jobs new.session.jobs (inside old.first_job job) None
  pub rest : new ≡ record old { session = record old.session { jobs = new.session.jobs } }
  pub leads : KeepsLeading old.session new.session
  pub code_is : MatchOption (get old.session.jobs (inside old.first_job job)) (code ≡ pos 120) (λ job. code ≡ pos 0)
