-- What a host makes of a guess.
use Rattle.std.specs.Prelude.{◌≡◌, ◌⊎◌, ◌<◌, ◌≤◌, ◌^◌, ◌++◌, ℕ, Bool, true, false, List, [], ◌∷◌, length, is_some, Option, None, Some, Result, Ok, Err}
use Rattle.roll_branch.specs.Routed.{Routed}
use Rattle.roll_frame.specs.declared.refusal.Refusal.{Refusal}
use Rattle.roll_frame.specs.declared.refusal.Refusal.TheVariants.{Full, NoMemory, QueueRefused}
use Rattle.roll_game.specs.Counts.{counted}
use Rattle.roll_game.specs.declared.counts.Call.TheVariants.{Copy}
use Rattle.roll_pool.specs.Owners.{Pool, out_of, IsWithdrawn}
use Rattle.roll_pool.specs.declared.owner.TheConstants.{JOBS_OUT}
use Rattle.roll_inputs.specs.declared.remote_word.RemoteWord.{RemoteWord}
use Rattle.roll_session.specs.Foretold.{guess_words_refusal_of, words_job_of}
use Rattle.roll_session.specs.Guessing.{guess_job_of, guess_refusal_of}
use Rattle.roll_session.specs.Seen.{Seen, Step}
use Rattle.roll_host.specs.Hosted.{Hosted}

-- the session, whose game was asked for one copy
abbrev pub with_copy : Bool → Seen → Seen
with_copy granted s = record s { counts = counted Copy granted s.counts }

module _ {D : Type 0} where
  -- a pool stays as it is, but for the places of its queue
  pub record IsAsBefore (before after : Pool D) : Type 0 where
    pub after_is : after ≡ record before { capacity = after.capacity }
    pub capacity : before.capacity ≤ after.capacity

  -- a job is withdrawn, and this is its number
  abbrev pub IsLetGo : Pool D → Pool D → ℕ → Type 0
  IsLetGo before after ticket = (job : Routed) × IsWithdrawn before after job × (ticket ≡ job.ticket)

  -- for a job more: fewer than 64 are out, or the oldest that no worker has taken is withdrawn
  abbrev pub MakesPlace : Pool D → Pool D → Type 0
  MakesPlace before ready =
      ((out_of before < JOBS_OUT) × (ready ≡ before))
      ⊎ ((JOBS_OUT ≤ out_of before) × (job : Routed) × IsWithdrawn before ready job)

  -- once there was a place, a job was issued, under the next number
  pub record IsIssued (old new : Option (Pool D)) (job : Routed) (ticket : ℕ) : Type 0 where
    pub before : Pool D
    pub ready : Pool D
    pub after : Pool D
    pub before_is : old ≡ Some before
    pub new_is : new ≡ Some after
    pub place : MakesPlace before ready
    pub number : ticket ≡ length ready.issued
    pub after_is : after ≡ record ready { issued = ready.issued ++ record job { ticket = ticket } ∷ []; capacity = after.capacity }
    pub capacity : ready.capacity ≤ after.capacity

  -- there was a place, and the job was not issued: too many were, or the queue needed to grow
  pub record IsUnissued (old new : Option (Pool D)) : Type 0 where
    pub before : Pool D
    pub ready : Pool D
    pub after : Pool D
    pub before_is : old ≡ Some before
    pub new_is : new ≡ Some after
    pub place : MakesPlace before ready
    pub same : IsAsBefore ready after
    pub why : (2 ^ 62 ≤ length ready.issued) ⊎ (ready.capacity ≤ length ready.issued)

  -- 64 jobs are out, and none was seen that no worker has taken
  pub record IsCrowded (old new : Option (Pool D)) : Type 0 where
    pub before : Pool D
    pub after : Pool D
    pub before_is : old ≡ Some before
    pub new_is : new ≡ Some after
    pub many : JOBS_OUT ≤ out_of before
    pub same : IsAsBefore before after

  -- a host's oldest job that no worker has taken is withdrawn, and this is its number
  pub record Withdraws (old new : Option (Pool D)) (ticket : ℕ) : Type 0 where
    pub before : Pool D
    pub after : Pool D
    pub before_is : old ≡ Some before
    pub new_is : new ≡ Some after
    pub job : Routed
    pub withdrawn : IsWithdrawn before after job
    pub number : ticket ≡ job.ticket

  -- none is, where none is seen
  abbrev pub WithdrawsNone : Option (Pool D) → Option (Pool D) → Type 0
  WithdrawsNone None new = new ≡ None
  WithdrawsNone (Some before) new = (after : Pool D) × (new ≡ Some after) × IsAsBefore before after

  -- a guess, of which a session says why it is refused, if it is, and which job it has, if it has one
  module _ (refused : Option Refusal) (wanted : Option Routed) (old new : Hosted D) where
    -- there are workers, and the rules accept the guess
    pub record IsTried : Type 0 where
      pub staffed : is_some old.pool ≡ true
      pub accepted : refused ≡ None
      pub links : new.links ≡ old.links

    -- the guess has a job, for which the game made its copy
    pub record IsMade (job : Routed) : Type 0 where
      pub guessed : wanted ≡ Some job
      pub session : new.session ≡ with_copy true old.session

    pub record IsSpeculated (ticket : ℕ) : Type 0 where
      pub tried : IsTried
      pub job : Routed
      pub made : IsMade job
      pub issued : IsIssued old.pool new.pool job ticket

    -- the queue refused the job, which is dropped
    pub record IsQueueRefused : Type 0 where
      pub tried : IsTried
      pub job : Routed
      pub made : IsMade job
      pub unissued : IsUnissued old.pool new.pool

    -- no place was free for the job, which is dropped
    pub record IsPlaceless : Type 0 where
      pub tried : IsTried
      pub job : Routed
      pub made : IsMade job
      pub crowded : IsCrowded old.pool new.pool

    -- memory ran out for the job: the game refused its copy, or wasn't asked
    pub record IsShortOfMemory : Type 0 where
      pub tried : IsTried
      pub pool : new.pool ≡ old.pool
      pub session : (new.session ≡ old.session) ⊎ (new.session ≡ with_copy false old.session)

    -- why a guess has no ticket: there are no workers, else the rules refuse it, else want of memory, else no place is free
    abbrev pub IsNotSpeculated : Refusal → Type 0
    IsNotSpeculated why =
        ((why ≡ Full) × (old.pool ≡ None) × (new ≡ old))
        ⊎ (((is_some old.pool ≡ true) × (refused ≡ Some why) × (new ≡ old))
        ⊎ (((why ≡ NoMemory) × IsShortOfMemory) ⊎ (((why ≡ Full) × IsPlaceless) ⊎ ((why ≡ QueueRefused) × IsQueueRefused))))

    -- each answer to the guess
    abbrev pub AnswersGuess : Result (Option ℕ) Refusal → Type 0
    AnswersGuess (Ok (Some ticket)) = IsSpeculated ticket
    AnswersGuess (Ok None) = IsTried × (wanted ≡ None) × (new ≡ old)
    AnswersGuess (Err why) = IsNotSpeculated why

  -- what becomes of the job of a guess, if it has one, in a pool
  abbrev pub HandsOut : Option Routed → Pool D → Pool D → Result (Option ℕ) Refusal → Type 0
  HandsOut None old new said = (new ≡ old) × (said ≡ Ok None)
  HandsOut (Some job) old new (Ok (Some ticket)) = IsIssued (Some old) (Some new) job ticket
  HandsOut (Some job) old new (Ok None) = ⊥
  HandsOut (Some job) old new (Err why) = ((why ≡ Full) × IsCrowded (Some old) (Some new)) ⊎ ((why ≡ QueueRefused) × IsUnissued (Some old) (Some new))

module _ {D : Type 0} (step : Step) (old new : Hosted D) where
  -- each answer to a guess that a player gives these words next
  abbrev pub Speculates : ℕ → List ℕ → ℕ → Result (Option ℕ) Refusal → Type 0
  Speculates player words until said =
      AnswersGuess (guess_refusal_of old.session player words until) (guess_job_of step old.session player words until) old new said

  -- each answer to a guess with words that have come
  abbrev pub SpeculatesWords : List RemoteWord → ℕ → Result (Option ℕ) Refusal → Type 0
  SpeculatesWords words until said =
      AnswersGuess (guess_words_refusal_of old.session words until) (words_job_of step old.session words until) old new said
