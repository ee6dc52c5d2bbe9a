-- What becomes of the results of workers.
use Rattle.std.specs.Prelude.{◌≡◌, ◌≤◌, ℕ, Bool, true, false, List, [], ◌∷◌, length, map, if◌then◌else◌}
use Rattle.std.specs.List.{flat_map, sum_by}
use Rattle.roll_branch.specs.declared.branch.Done.{Done}
use Rattle.roll_branch.specs.declared.branch.Done.TheVariants.{Grown, Refused as HasNone}
use Rattle.roll_frame.specs.Events.{CoreEvent}
use Rattle.roll_frame.specs.declared.refusal.Refusal.{Refusal}
use Rattle.roll_frame.specs.declared.refusal.Refusal.TheVariants.{NoMemory}
use Rattle.roll_frame.specs.declared.reply.Reply.TheVariants.{Grafted, Refused}
use Rattle.roll_pool.specs.Owners.{IsCollected}
use Rattle.roll_session.specs.Answered.{IsAnswered, IsPlayed, IsReplied}
use Rattle.roll_session.specs.Calls.{grafting}
use Rattle.roll_session.specs.Seen.{Seen, Step}
use Rattle.roll_host.specs.declared.absorb.Absorbed.{Absorbed}
use Rattle.roll_host.specs.declared.absorb.Fate.{Fate}
use Rattle.roll_host.specs.declared.absorb.Fate.TheVariants.{Added, Dropped, Unmade}
use Rattle.roll_host.specs.declared.limits.TheConstants.{TURN_LIMIT}

abbrev pub is_memory : Refusal → Bool
is_memory NoMemory = true
is_memory why = false

-- what each result counts for
abbrev pub added_by : Fate → ℕ
added_by (Added count) = count
added_by fate = 0

abbrev pub dropped_by : Fate → ℕ
dropped_by (Dropped why) = 1
dropped_by fate = 0

abbrev pub unmade_by : Fate → ℕ
unmade_by Unmade = 1
unmade_by fate = 0

module _ {G S N : Type 0} where
  -- a branch is grafted, with the answer of `graft`; where there is none, nothing changes
  abbrev pub IsFate : Step → Seen → Seen → Done G S N → Fate → Type 0
  IsFate step old new (Grown branch) (Added count) = IsReplied step old new (grafting branch) (Grafted count)
  IsFate step old new (Grown branch) (Dropped why) = IsAnswered step old new (grafting branch) (Refused why)
  IsFate step old new (HasNone ticket) Unmade = new ≡ old
  IsFate step old new done fate = ⊥

  -- the event that a result stands for: none where it has no branch, or where memory ran out for the graft
  abbrev pub events_by : Done G S N → Fate → List CoreEvent
  events_by (Grown branch) (Added count) = grafting branch ∷ []
  events_by (Grown branch) (Dropped why) = if is_memory why then [] else grafting branch ∷ []
  events_by done fate = []

-- a result, and what became of it
pub record Fated (G S N : Type 0) : Type 0 where
  pub done : Done G S N
  pub fate : Fate

module _ {G S N : Type 0} where
  -- results were taken in, one after another
  abbrev pub AreFates : Step → Seen → List (Fated G S N) → Seen → Type 0
  AreFates step old [] new = new ≡ old
  AreFates step old (first ∷ more) new = (mid : Seen) × IsFate step old mid first.done first.fate × AreFates step mid more new

  -- these results came, one after another, each from one of the workers
  abbrev pub AreCollected : List (List (Done G S N)) → List (Done G S N) → List (List (Done G S N)) → Type 0
  AreCollected old [] new = new ≡ old
  AreCollected old (done ∷ more) new = (mid : List (List (Done G S N))) × IsCollected old mid done × AreCollected mid more new

  abbrev pub events_of_all : List (Fated G S N) → List CoreEvent
  events_of_all fates = flat_map (λ f. events_by f.done f.fate) fates

  -- results were collected, and each was taken in before the next
  pub record IsAbsorbed (step : Step) (old : Seen) (came : List (List (Done G S N))) (new : Seen) (came_after : List (List (Done G S N))) (absorbed : Absorbed) : Type 0 where
    pub fates : List (Fated G S N)
    pub are_fates : AreFates step old fates new
    pub collected : AreCollected came (map (λ f. f.done) fates) came_after
    pub played : IsPlayed step old new (events_of_all fates)
    pub taken : absorbed.taken ≡ length fates
    pub added : absorbed.added ≡ sum_by (λ f. added_by f.fate) fates
    pub dropped : absorbed.dropped ≡ sum_by (λ f. dropped_by f.fate) fates
    pub unmade : absorbed.unmade ≡ sum_by (λ f. unmade_by f.fate) fates
    pub most : length fates ≤ TURN_LIMIT
