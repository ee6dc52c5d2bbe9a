-- What a contract sees of a pool's owner.
use Rattle.std.specs.Prelude.{◌≡◌, ◌≤◌, ◌<◌, ◌+◌, ◌-◌, ◌^◌, ℕ, true, List, [], ◌∷◌, ◌++◌, map, length, get_or, set, slice_get, Some}
use Rattle.std.specs.List.{All, flat_map, range_with_len}
use Rattle.roll_branch.specs.Routed.{Routed}
use Rattle.roll_pool.specs.Rings.{DequeId, Ring, Place, Inbox}
use Rattle.roll_pool.specs.Rule.{tally}
use Rattle.roll_pool.specs.declared.rule.Tally.{Tally}
use Rattle.roll_pool.specs.declared.owner.TheConstants.{JOBS_OUT, WORKER_LIMIT}

-- each worker's place; the jobs that were issued, and those that were withdrawn, in order; what was collected from each
-- worker, in order; and how many jobs the queue has places for as it is
pub record Pool (D : Type 0) : Type 0 where
  pub places : List Place
  pub issued : List Routed
  pub withdrawn : List Routed
  pub came : List (List D)
  pub capacity : ℕ

-- the workers of one deque, who hear the same signals
abbrev pub places_at : DequeId → ℕ → List Ring → List Place
places_at deque signals = map (λ ring. record { deque = deque; ring = ring; signals = signals })

module _ {D : Type 0} where
  abbrev pub came_by : List (Inbox D) → List (List D)
  came_by = map (λ inbox. inbox.came)

  abbrev pub rings_of : List (Inbox D) → List Ring
  rings_of = map (λ inbox. inbox.ring)

  -- what was collected, by worker
  abbrev pub collected : List (List D) → List D
  collected = flat_map (λ came. came)

  -- one more result came from one of the workers, and none from the others
  pub record IsCollected (old new : List (List D)) (done : D) : Type 0 where
    pub worker : ℕ
    pub is_one : worker < length old
    pub came : new ≡ set old worker (get_or old worker [] ++ done ∷ [])

  -- how many jobs came back: collected, or withdrawn; and how many are out
  abbrev pub back_of : Pool D → ℕ
  back_of p = length (collected p.came) + length p.withdrawn

  abbrev pub out_of : Pool D → ℕ
  out_of p = length p.issued - back_of p

  -- a job that was issued is withdrawn, after those that were issued before it
  pub record IsWithdrawn (old new : Pool D) (job : Routed) : Type 0 where
    pub is_issued : slice_get old.issued job.ticket ≡ Some job
    pub is_later : All (λ earlier. earlier.ticket < job.ticket) old.withdrawn
    pub new_is : new ≡ record old { withdrawn = old.withdrawn ++ job ∷ []; capacity = new.capacity }
    pub capacity : old.capacity ≤ new.capacity

  -- an empty list, with room for the jobs that are out
  abbrev pub HasRoom : List D → ℕ → Type 0
  HasRoom items room = (items ≡ []) × (JOBS_OUT ≤ room)

-- the owner's pass knows the jobs that were issued, under the numbers 0, 1, 2, .., those that were withdrawn, and how many
-- workers there are. The queue gives its oldest job first
pub record IsSound (view : Tally Routed) (flavor index capacity workers issued collected withdrawn : ℕ) : Type 0 where
  pub knows : view ≡ tally true view.issued workers 0 view.jobs
  pub fifo : flavor ≡ 0
  pub next : index ≤ issued
  pub places : JOBS_OUT ≤ capacity
  pub many : length view.issued ≡ issued
  pub numbered : map (λ j. j.ticket) view.issued ≡ range_with_len 0 issued
  pub back : length view.jobs ≡ withdrawn
  pub taken : collected + withdrawn ≤ issued
  pub few : issued ≤ (collected + withdrawn) + JOBS_OUT
  pub most : issued ≤ 2 ^ 62
  pub team : workers ≤ WORKER_LIMIT
