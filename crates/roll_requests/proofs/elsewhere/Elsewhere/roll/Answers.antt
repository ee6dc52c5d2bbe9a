use Rattle.std.proofs.Common.{◌≡◌, ◌++◌, ◌∷◌, ◌∙◌, ◌+◌, ◌-◌, [], ℕ, Bool, List, Some, ap, arith, length, max, refl, subst, sym}
use Rattle.std.specs.Prelude.{◌||◌, IsSomeAnd}
use Rattle.roll_frame.specs.Core.{Core, cost}
use Rattle.roll_frame.specs.declared.entry.Entry.{Entry}
use Rattle.roll_frame.specs.Timeline.{row_at}
use Rattle.roll_session.specs.Answered.{with_entries}
use Rattle.roll_session.specs.Calls.{entry_of, IsAllowed, IsRollTo}
use Rattle.roll_session.specs.Gameless.{still}
use Rattle.roll_session.specs.Seen.{IsLeast, Seen, game_of}
use Rattle.roll_session.proofs.Holding.{least_of}
use Rattle.roll_session.proofs.Rolling.{some_is}
use Rattle.roll_tree.specs.SavedStates.{Saved, state_named}
use Rattle.roll_session.specs.Saves.{Standing}
use Rattle.roll_session.specs.Standing.{rows_from}
use Rattle.roll_requests.specs.Asked.{Asked, StartsIn}
use Rattle.roll_requests.specs.Planned.{IsRoom, Room}
use Rattle.roll_requests.specs.Requests.{last_or, roll_requests}
use Rattle.roll_requests.specs.declared.request.Request.{Request}
use Rattle.roll_requests.specs.Slotted.{is_among, is_taken, AreOwn}
use Rattle.roll_requests.proofs.Apart.{roll_apart}
use Rattle.roll_requests.proofs.Counting.{roll_adds}
use Rattle.roll_requests.proofs.Filling.{are_held, needed_now, now_taken, still_taken}
use Rattle.roll_requests.proofs.Leads.{done_leads, done_taken, leads_looked, slotted_told, start_outside, IsDone}
use Rattle.roll_frame.specs.declared.row.Cell.{Cell}
use Rattle.roll_requests.proofs.elsewhere.Elsewhere.roll.Goals as goal

pub plan_roll-requires-clause-roll : goal.plan_roll-requires-clause-roll
plan_roll-requires-clause-roll c = c.requires

pub plan_roll-requires-clause-taken : goal.plan_roll-requires-clause-taken
plan_roll-requires-clause-taken c = c.self.invariant.0.are

pub plan_roll-requires-clause-limit : goal.plan_roll-requires-clause-limit
plan_roll-requires-clause-limit c = c.self.invariant.1.slots

pub invariant_of-self : goal.invariant_of-self
invariant_of-self c =
    let i = c.self.inside in
    (slotted_told i.core.saves c.plan_roll.new.core.saves i.jobs i.at i.taken c.plan_roll.ensures.hardly.saves c.self.invariant.0, c.self.invariant.1)

pub returns-in_err-plan-clause-leads : goal.returns-in_err-plan-clause-leads
returns-in_err-plan-clause-leads c =
    let i = c.self.inside in
    let mid = c.plan_roll.new.core in
    let hardly = c.plan_roll.ensures.hardly in
    rw (← c.self.view_is)
    (leads_looked (record { seen = i.core.seen; saves = i.core.saves; at = i.at; requests = i.queue.requests; limit = i.limit; jobs = i.jobs; taken = i.taken }) (record { seen = mid.seen; saves = mid.saves; at = i.at; requests = c.plan_roll.new.queue.requests; limit = i.limit; jobs = i.jobs; taken = i.taken })
    hardly.saves refl c.plan_roll.ensures.requests refl refl (ap (λ (s : Seen). s.core.shown) hardly.seen))

pub ask_roll-self-inside-requires-clause-going : goal.ask_roll-self-inside-requires-clause-going
ask_roll-self-inside-requires-clause-going c = c.in_ok-plan.ensures.can.going

pub ask_roll-self-inside-requires-clause-many : goal.ask_roll-self-inside-requires-clause-many
ask_roll-self-inside-requires-clause-many c = rw c.deref.ensures.0 c.in_ok-plan.ensures.many

pub ask_roll-self-inside-requires-clause-room : goal.ask_roll-self-inside-requires-clause-room
ask_roll-self-inside-requires-clause-room c = rw c.deref.ensures.0 c.in_ok-plan.ensures.space

pub fill_all-requires : goal.fill_all-requires
fill_all-requires c = rw c.deref-2.ensures.0 c.in_ok-plan.ensures.room.within

pub enter-requires-clause-can : goal.enter-requires-clause-can
enter-requires-clause-can c = c.in_ok-plan.ensures.can

pub enter-requires-clause-all : goal.enter-requires-clause-all
enter-requires-clause-all c = rw c.deref-3.ensures.0 c.in_ok-plan.ensures.many

pub enter-requires-clause-room : goal.enter-requires-clause-room
enter-requires-clause-room c = c.in_ok-plan.ensures.reserved

-- the slots that are held, and those of the roll
abbrev room_of : (c : goal.After-laws-2) → Room
room_of c = record { held = c.plan_roll.new.held; slots = c.in_ok-plan.plan.slots.items }

-- what the session says of the roll
done_of : (c : goal.After-laws-2) → IsDone c.plan_roll.new.core c.enter.new.self c.args.call c.in_ok-plan.plan.way (room_of c) c.self.inside.limit c.self.inside.jobs
done_of c =
    let e = c.in_ok-plan.ensures in
    record {
      can = e.can;
      room_is = e.room;
      many = e.many;
      log = c.laws.ensures.log;
      before = c.laws.ensures.inputs;
      after = c.laws-2.ensures.inputs;
      core = ap (λ (s : Seen). s.core) c.enter.ensures.entered;
      keeps = rw c.deref-3.ensures.0 at c.enter.ensures.keeps;
    }

-- the state that it starts from, and what is asked
asked_of : (c : goal.After-laws-2) → (u : Saved ℕ) × (state_named c.plan_roll.new.core.saves.tree c.in_ok-plan.plan.way.at ≡ Some u)
    × ((c.ask_roll-self-inside.result ≡ last_or u.snapshot c.in_ok-plan.plan.slots.items)
    × (c.ask_roll-self-inside.new.queue.requests ≡ c.plan_roll.new.queue.requests ++ roll_requests c.self.inside.at u.snapshot c.self.inside.taken c.plan_roll.new.held (λ k. row_at c.plan_roll.new.core.saves.inputs.players (c.in_ok-plan.plan.way.frame + k)) c.in_ok-plan.plan.slots.items))
asked_of c =
    let P : Saved ℕ → Type 0 = λ u.
    (c.ask_roll-self-inside.result ≡ last_or u.snapshot c.in_ok-plan.plan.slots.items)
    × (c.ask_roll-self-inside.new.queue.requests ≡ c.plan_roll.new.queue.requests ++ roll_requests c.self.inside.at u.snapshot c.self.inside.taken c.plan_roll.new.held (λ k. row_at c.plan_roll.new.core.saves.inputs.players (c.in_ok-plan.plan.way.frame + k)) c.in_ok-plan.plan.slots.items) in
    some_is (state_named c.plan_roll.new.core.saves.tree c.in_ok-plan.plan.way.at) P (rw c.deref.ensures.0 at c.ask_roll-self-inside.ensures)

-- the slots of the jobs' states are still their own
own_of : (c : goal.After-laws-2) → AreOwn c.plan_roll.new.core.saves.tree.states c.self.inside.jobs
own_of c =
    let i = c.self.inside in
    (slotted_told i.core.saves c.plan_roll.new.core.saves i.jobs i.at i.taken c.plan_roll.ensures.hardly.saves c.self.invariant.0).own

-- what is taken after it
filled_of : (c : goal.After-laws-2) → (k : ℕ) → is_taken c.swap.new.x k ≡ (is_taken c.plan_roll.new.held k || is_among c.in_ok-plan.plan.slots.items k)
filled_of c k = ap (λ (t : List Bool). is_taken t k) c.swap.ensures.x_after ∙ (rw c.deref-2.ensures.0 at c.fill_all.ensures.filled) k

pub invariant_of-self-2 : goal.invariant_of-self-2
invariant_of-self-2 c =
    let a = asked_of c in
    let room : Room = room_of c in
    let filled = filled_of c in (
      done_taken c.plan_roll.new.core c.enter.new.self c.args.call c.in_ok-plan.plan.way room c.self.inside.limit c.self.inside.jobs (done_of c) c.swap.new.x c.ask_roll-self-inside.result a.0 (own_of c) a.1 a.2.0
          (still_taken room.held c.swap.new.x room.slots filled) (now_taken room.held c.swap.new.x room.slots filled),
      c.self.invariant.1,
    )

pub returns-clause-allowed : goal.returns-clause-allowed
returns-clause-allowed c =
    let allowed = subst (λ (s : Seen). IsAllowed still s c.args.call) c.in_ok-plan.ensures.looked c.in_ok-plan.ensures.can.allowed in
    rw (← c.self.view_is) (record { new = allowed.new; accepted = allowed.accepted })

pub returns-clause-entered : goal.returns-clause-entered
returns-clause-entered c =
    let old = c.self.inside.core.seen in
    let entries : List Entry = entry_of c.args.call ∷ [] in
    let left : max old.reserved 1 - 1 ≡ old.reserved - 1 = omega arith in
    rw (← c.self.view_is)
    (c.enter.ensures.entered
    ∙ (ap (λ (s : Seen). with_entries s entries s.counts) c.in_ok-plan.ensures.looked
    ∙ ap (λ n. record (with_entries old entries old.counts) { reserved = n }) left))

-- where it starts
starts_of : (c : goal.After-laws-2) → StartsIn c.plan_roll.new.core.saves c.in_ok-plan.plan.way.frame (asked_of c).0.snapshot
starts_of c =
    let saves = c.plan_roll.new.core.saves in
    let way = c.in_ok-plan.plan.way in
    let a = asked_of c in
    let P : Saved ℕ → Type 0 = λ u. u.path ≡ rows_from saves.inputs.players saves.inputs.settled (way.frame - saves.inputs.settled) in
    let path : P a.0 = subst (λ o. IsSomeAnd o P) a.1 c.in_ok-plan.ensures.can.going.here in
    (way.at, subst (λ o. IsSomeAnd o (λ u. (u.snapshot ≡ a.0.snapshot) × P u)) (sym a.1) (refl, path))

pub returns-clause-rolls : goal.returns-clause-rolls
returns-clause-rolls c =
    let i = c.self.inside in
    let mid = c.plan_roll.new.core in
    let e = c.in_ok-plan.ensures in
    let way = c.in_ok-plan.plan.way in
    let room : Room = room_of c in
    let a = asked_of c in
    let core : mid.seen.core ≡ i.core.seen.core = ap (λ (s : Seen). s.core) c.plan_roll.ensures.hardly.seen in
    let log = c.laws.ensures.log in
    let least : IsLeast mid.seen.core way.to = subst (λ (k : Core). IsLeast k way.to) (sym log.core) (least_of mid.seen.settings (game_of still mid.seen) mid.seen.log log.log way.to) in
    let many : length room.slots ≡ cost i.core.seen.core way.to = omega (arith, e.many, e.from) in
    let room_is = subst (λ (states : List (Saved ℕ)). IsRoom i.limit states i.jobs room) (ap (λ (s : Standing ℕ). s.tree.states) c.plan_roll.ensures.hardly.saves) e.room in
    let held = are_held mid.saves.tree.states i.jobs room.held e.room.held in
    let row : ℕ → List Cell = λ k. row_at mid.saves.inputs.players (way.frame + k) in
    let list = a.2.1 ∙ ap (λ (l : List Request). l ++ roll_requests i.at a.0.snapshot i.taken room.held row room.slots) c.plan_roll.ensures.requests in
    let added = roll_adds i.limit i.at a.0.snapshot i.taken room.held row room.slots (cost i.core.seen.core way.to) i.jobs i.queue.requests c.ask_roll-self-inside.new.queue.requests e.room.free.below many
    (λ n job there.
    let off = start_outside mid c.enter.new.self c.args.call way room i.limit i.jobs (done_of c) (own_of c) a.0 a.1 n job there in
    roll_apart job room.held (held.out n job there) i.limit i.at a.0.snapshot i.taken row room.slots off e.room.free)
    list in
    rw (← c.self.view_is)
    (record {
      is_to = subst (λ (k : Core). IsRollTo k c.args.call way.to) core e.can.to;
      from_is = e.from;
      rerun_is = ap (λ n. way.to - n) e.from;
      least = subst (λ (k : Core). IsLeast k way.to) core least;
      adds = added.0;
      start = a.0.snapshot;
      starts = subst (λ (s : Standing ℕ). StartsIn s way.frame a.0.snapshot) c.plan_roll.ensures.hardly.saves (starts_of c);
      loads = added.1;
      taken = needed_now i.core.saves.tree.states i.jobs i.limit (cost i.core.seen.core way.to) room.held c.swap.new.x room.slots room_is.held room_is.least many (filled_of c);
    })

pub returns-clause-leads : goal.returns-clause-leads
returns-clause-leads c =
    let i = c.self.inside in
    let mid = c.plan_roll.new.core in
    let a = asked_of c in
    let hardly = c.plan_roll.ensures.hardly in
    let old : Asked = record { seen = i.core.seen; saves = i.core.saves; at = i.at; requests = i.queue.requests; limit = i.limit; jobs = i.jobs; taken = i.taken } in
    let here : Asked = record { seen = mid.seen; saves = mid.saves; at = i.at; requests = c.plan_roll.new.queue.requests; limit = i.limit; jobs = i.jobs; taken = i.taken } in
    rw (← c.self.view_is)
    (λ past l.
    done_leads mid c.enter.new.self c.args.call c.in_ok-plan.plan.way (room_of c) i.limit i.jobs (done_of c) i.taken c.swap.new.x i.at c.ask_roll-self-inside.result a.0 c.plan_roll.new.queue.requests c.ask_roll-self-inside.new.queue.requests
    (slotted_told i.core.saves mid.saves i.jobs i.at i.taken hardly.saves c.self.invariant.0).are (filled_of c) a.1 a.2.0 a.2.1 past
    (leads_looked old here hardly.saves refl c.plan_roll.ensures.requests refl refl (ap (λ (s : Seen). s.core.shown) hardly.seen) past l))
