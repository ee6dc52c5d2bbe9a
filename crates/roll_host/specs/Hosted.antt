-- A host as its callers see it, and a link of it that is added or ended.
use Rattle.std.specs.Prelude.{◌≡◌, ◌<◌, ◌≤◌, ◌+◌, ◌++◌, ℕ, List, [], ◌∷◌, length, map, max, false, true, Option, None, Some, Result, Ok, Err, slice_get, slice_set}
use Rattle.roll_branch.specs.Routed.{Routed}
use Rattle.roll_frame.specs.declared.refusal.Refusal.{Refusal}
use Rattle.roll_frame.specs.declared.refusal.Refusal.TheVariants.{InvalidRequest, LogFull}
use Rattle.roll_link.specs.Linked.{Linked, Sending, left}
use Rattle.roll_link.specs.Rings.{Ring}
use Rattle.roll_pool.specs.Owners.{Pool, out_of}
use Rattle.roll_pool.specs.Rings.{Place}
use Rattle.roll_session.specs.Changes.{FitsLog}
use Rattle.roll_session.specs.Seen.{Seen}
use Rattle.roll_host.specs.declared.limits.TheConstants.{LINK_LIMIT}

pub record Hosted (D : Type 0) : Type 0 where
  pub session : Seen
  -- numbered 0, 1, .. in the order in which they were added
  pub links : List Linked
  -- that of its workers, if it has any
  pub pool : Option (Pool D)

-- which links they are
abbrev pub rings_of : List Linked → List Ring
rings_of links = map (λ l. l.ring) links

-- a link by which nothing came yet
abbrev pub new_link : Ring → Linked
new_link ring = record { ring = ring; applied = []; held = None; known = []; ended = false }

-- a link's sender has finished: so many of the items that it sent are not applied, and all of them are known
pub record EndsLink {D : Type 0} (old new : Hosted D) (place : ℕ) (finished : Sending) (count : ℕ) : Type 0 where
  pub before : Linked
  pub after : Linked
  pub before_is : slice_get old.links place ≡ Some before
  pub after_is : after ≡ record before { known = after.known; ended = true }
  pub new_is : new ≡ record old { links = slice_set old.links place after }
  pub sent : finished.sent ≡ after.applied ++ left after
  pub count_is : count ≡ length (left after)

module _ {D : Type 0} where
  -- a link more, by which nothing was sent; it is refused where there are 4
  abbrev pub AddsLink : Hosted D → Hosted D → Result Sending Refusal → Type 0
  AddsLink old new (Ok sender) =
      (new ≡ record old { links = old.links ++ new_link sender.ring ∷ [] }) × (sender.sent ≡ []) × (length old.links < LINK_LIMIT)
  AddsLink old new (Err why) = (new ≡ old) × (why ≡ InvalidRequest) × (LINK_LIMIT ≤ length old.links)

  -- room for so many events more; it is refused where the log would pass its limit
  abbrev pub ReservesLog : {X : Type 0} → Hosted D → Hosted D → ℕ → Result X Refusal → Type 0
  ReservesLog old new events (Ok done) =
      (new ≡ record old { session = record old.session { reserved = max old.session.reserved events } }) × FitsLog old.session events
  ReservesLog old new events (Err why) = (new ≡ old) × (why ≡ LogFull) × (old.session.settings.log < old.session.core.logged + events)

  -- the workers' places, and the jobs that were issued
  abbrev pub places_of : Option (Pool D) → List Place
  places_of None = []
  places_of (Some pool) = pool.places

  abbrev pub issued_of : Option (Pool D) → List Routed
  issued_of None = []
  issued_of (Some pool) = pool.issued

  -- those that were withdrawn, and how many are out
  abbrev pub withdrawn_of : Option (Pool D) → List Routed
  withdrawn_of None = []
  withdrawn_of (Some pool) = pool.withdrawn

  abbrev pub jobs_out : Option (Pool D) → ℕ
  jobs_out None = 0
  jobs_out (Some pool) = out_of pool

  -- what was collected from each worker
  abbrev pub came_by : Option (Pool D) → List (List D)
  came_by None = []
  came_by (Some pool) = pool.came

  abbrev pub with_came : List (List D) → Pool D → Pool D
  with_came came pool = record pool { came = came }
