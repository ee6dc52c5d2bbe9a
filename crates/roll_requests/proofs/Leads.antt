-- A session's calls keep to where its requests lead.
use Rattle.std.proofs.Common.{◌≡◌, ℕ, ◌+◌, ◌-◌, ◌≤◌, List, [], ◌∷◌, ◌++◌, length, get_or, take, drop, refl, ap, sym, subst, ◌∙◌, arith, Option, Some, None, is_some, Result, Ok, Err, Bool, true, append_assoc}
use Rattle.std.specs.Prelude.{◌==◌, ◌||◌, min, All, IfErr, IfOk, IfSome, OnErr, OnOk}
use Rattle.std.proofs.lemmas.List.{take-append-drop}
use Rattle.std.proofs.lemmas.List.Elements.{All-cons, All-nil}
use Rattle.slab.specs.Slab.{Slab, get, Updates}
use Rattle.roll_frame.specs.declared.refusal.Refusal.{Refusal}
use Rattle.roll_frame.specs.declared.route.Route.{Route}
use Rattle.roll_frame.specs.Cells.{Rows}
use Rattle.roll_frame.specs.declared.row.Cell.{Cell}
use Rattle.roll_frame.specs.Core.{Core, settled}
use Rattle.roll_frame.specs.declared.settings.Settings.{Settings}
use Rattle.roll_game.specs.Counts.{no_calls}
use Rattle.roll_session.specs.Started.{first_seen}
use Rattle.roll_frame.specs.Events.{CoreEvent, applied, branch_of}
use Rattle.roll_frame.specs.Games.{Value}
use Rattle.roll_frame.specs.Grafts.{new_paths}
use Rattle.roll_frame.specs.Paths.{longest, run}
use Rattle.roll_frame.specs.Timeline.{Player, front, row_at, timeline}
use Rattle.roll_inputs.specs.Boards.{Inputs}
use Rattle.roll_session.specs.Calls.{entry_of, event_of, grafting, IsRollTo}
use Rattle.roll_session.specs.Changes.{after_graft, graft_refusal, IsRefused}
use Rattle.roll_session.specs.Gameless.{bare_branch, still, Bare, CanEnter, KeepsAll, KeepsBranch, KeepsGiven}
use Rattle.roll_session.specs.Held.{inputs_of}
use Rattle.roll_session.specs.Saves.{Standing}
use Rattle.roll_session.specs.Seen.{FollowsLog, Seen, Step, game_of}
use Rattle.roll_session.specs.Standing.{rows_from}
use Rattle.roll_session.specs.declared.event.Call.{Call}
use Rattle.roll_session.specs.declared.event.Call.TheVariants.{Sync as SyncCall, Advance as AdvanceCall}
use Rattle.roll_session.specs.declared.event.Grafted.{Grafted}
use Rattle.roll_session.specs.declared.way.Way.{Way}
use Rattle.roll_session.proofs.Holding.{accepted}
use Rattle.roll_session.proofs.Rolling.{all_held, held_same, some_is, whole}
use Rattle.roll_tree.specs.SavedStates.{Saved, state_named}
use Rattle.roll_requests.specs.Asked.{Asked, HasJob, IsHandedIn, Leads, SameTaken}
use Rattle.roll_requests.specs.Carried.{Elsewhere, carried_all, carried_out, first}
use Rattle.roll_requests.specs.Planned.{IsRoom, Room}
use Rattle.roll_requests.specs.Requests.{last_or, roll_requests}
use Rattle.roll_requests.specs.Slotted.{is_among, is_taken, AreFree, AreOwn, AreTaken, Guessed, IsOutside, IsSlotted, IsTaken}
use Rattle.roll_requests.specs.declared.request.Request.{Request}
use Rattle.roll_requests.proofs.Carrying.{carried_append}
use Rattle.roll_requests.proofs.Filling.{are_held, held_kept, needed_taken}
use Rattle.roll_requests.proofs.Holding.{holds_all, holds_branch, holds_given, pass_branch, pass_given, rolled, Hold, Holds, IsRolled}
use Rattle.roll_requests.proofs.Taking.{first_some, roll_some}
use Rattle.roll_requests.proofs.Owning.{jobs_left, own_branch, own_given, own_left}
use Rattle.roll_requests.proofs.Stays.{stays_applied, stays_in, Stays, StaysIn}

-- a job's states stay what they are
pub job_stays : (step : Step) (opening : Value) (old new : Standing ℕ) (slots : ℕ → Option Value) (job : Guessed) → StaysIn old.inputs new.inputs → HasJob step opening old slots job → HasJob step opening new slots job
job_stays step opening old new slots job s h =
    record {
      base = omega (arith, h.base, s.rises);
      start = h.start ∙ ap (λ rows. Some (run step opening (rows ++ (job.route.path.rows.items ++ take 0 job.route.rows.items)))) (sym (s.before job.route.path.base h.base));
      held = λ k d few. h.held k d few ∙ ap (λ rows. Some (run step opening (rows ++ (job.route.path.rows.items ++ take (k + 1) job.route.rows.items)))) (sym (s.before job.route.path.base h.base));
    }

-- what slots have, where requests led
pub hold_of : (past : List Request) (e : Asked) → Leads past e → (step : Step) (opening : Value) → Hold step opening e.saves e.jobs (carried_out step opening (past ++ e.requests)).slots
hold_of past e l step opening = record { saved = (l.there step opening).held; out = l.jobs step opening }

same_taken : (old new : List Bool) → new ≡ old → SameTaken old new
same_taken old new e = λ slot. ap (λ (taken : List Bool). is_taken taken slot) e

-- nothing is asked, and nothing is lost
pub leads_same : (old new : Asked) → new.requests ≡ old.requests → new.at ≡ old.at → SameTaken old.taken new.taken → new.seen.core.shown ≡ old.seen.core.shown
    → ((step : Step) (opening : Value) (slots : ℕ → Option Value) → Hold step opening old.saves old.jobs slots → Hold step opening new.saves new.jobs slots)
    → (past : List Request) → Leads past old → Leads past new
leads_same old new requests at taken shown keeps past l =
    record {
      there = λ step opening.
          let h = keeps step opening (carried_out step opening (past ++ old.requests)).slots (hold_of past old l step opening) in
          rw (at, requests) (record { held = h.saved; at_is = (l.there step opening).at_is });
      shown = λ step opening. rw (shown, requests) (l.shown step opening);
      jobs = λ step opening.
          let h = keeps step opening (carried_out step opening (past ++ old.requests)).slots (hold_of past old l step opening) in
          rw requests h.out;
      taken = λ step opening slot. rw requests (l.taken step opening slot) ∙ sym (taken slot);
    }

-- a session that goes on without a roll keeps what slots have
pub hold_all : (old new : Standing ℕ) (jobs : Slab Guessed) → KeepsAll old new → StaysIn old.inputs new.inputs → (step : Step) (opening : Value) (slots : ℕ → Option Value) → Hold step opening old jobs slots → Hold step opening new jobs slots
hold_all old new jobs keeps stays step opening slots h =
    record {
      saved = holds_all old new keeps step opening slots h.saved;
      out = λ n job there. job_stays step opening old new slots job stays (h.out n job there);
    }

-- a player's input leaves all slots as they are
pub leads_taken : (old new : Asked) → KeepsAll old.saves new.saves → StaysIn old.saves.inputs new.saves.inputs → new.at ≡ old.at → new.requests ≡ old.requests → new.jobs ≡ old.jobs → new.taken ≡ old.taken → new.seen.core.shown ≡ old.seen.core.shown
    → (past : List Request) → Leads past old → Leads past new
leads_taken old new keeps stays at requests jobs taken shown =
    leads_same old new requests at (same_taken old.taken new.taken taken) shown (λ step opening slots h. rw jobs (hold_all old.saves new.saves old.jobs keeps stays step opening slots h))

-- a call that is looked at asks for nothing
pub leads_looked : (old new : Asked) → new.saves ≡ record old.saves { tree = record old.saves.tree { time = new.saves.tree.time } } → new.at ≡ old.at → new.requests ≡ old.requests → new.jobs ≡ old.jobs → new.taken ≡ old.taken → new.seen.core.shown ≡ old.seen.core.shown
    → (past : List Request) → Leads past old → Leads past new
leads_looked old new saves at requests jobs taken shown =
    leads_same old new requests at (same_taken old.taken new.taken taken) shown (λ step opening slots h. rw jobs (subst (λ (s : Standing ℕ). Hold step opening s old.jobs slots) (sym saves) (record { saved = h.saved; out = λ n job there. let j = h.out n job there in record { base = j.base; start = j.start; held = j.held } })))

roll_shows : (core : Core) (call : Call) (to : ℕ) → IsRollTo core call to → (applied core (entry_of call)).shown ≡ Some (timeline core.players to)
roll_shows core SyncCall to e = ap (λ n. Some (timeline core.players n)) (sym e)
roll_shows core AdvanceCall to e = ap (λ n. Some (timeline core.players n)) (sym e)
roll_shows core call to e = absurd e

-- what is known of a roll
pub record IsRoll (old new : Asked) (call : Call) (from to start : ℕ) (held : List Bool) (slots : List ℕ) : Type 0 where
  pub within : from ≤ to
  pub is_to : IsRollTo old.seen.core call to
  pub many : length slots ≡ to - from
  pub are : AreTaken old.saves.tree.states old.jobs held
  pub free : AreFree old.limit held slots
  pub is_held : IsTaken held start
  pub here : (step : Step) (opening : Value) (there : ℕ → Option Value) → Holds step opening old.saves there → there start ≡ Some (run step opening (timeline old.saves.inputs.players from))
  pub list_is : new.requests ≡ old.requests ++ roll_requests old.at start old.taken held (λ k. row_at old.saves.inputs.players (from + k)) slots
  pub at_is : new.at ≡ last_or start slots
  pub jobs : new.jobs ≡ old.jobs
  pub were : (k : ℕ) → IsTaken held k → IsTaken old.taken k
  pub filled : (k : ℕ) → is_taken new.taken k ≡ (is_taken held k || is_among slots k)
  pub keeps : KeepsGiven old.saves new.saves from slots
  pub core : new.seen.core ≡ applied old.seen.core (entry_of call)
  pub players : old.saves.inputs.players ≡ old.seen.core.players
  pub stays : StaysIn old.saves.inputs new.saves.inputs

-- after a roll
pub leads_rolled : (old new : Asked) (call : Call) (from to start : ℕ) (held : List Bool) (slots : List ℕ) → IsRoll old new call from to start held slots → (past : List Request) → Leads past old → Leads past new
leads_rolled old new call from to start held slots r past l =
    record {
      there = λ step opening.
          let m = made step opening in
          record {
            held = holds_given old.saves new.saves from slots r.keeps step opening (carried_out step opening (past ++ new.requests)).slots m.hold.saved m.made;
            at_is = rw r.at_is m.at_is;
          };
      shown = λ step opening.
          let m = made step opening in
          let place : from + length slots ≡ to = omega (arith, r.many, r.within) in
          rw (r.core, roll_shows old.seen.core call to r.is_to) (m.current ∙ ap (λ n. run step opening (timeline old.saves.inputs.players n)) place ∙ ap (λ (ps : List Player). run step opening (timeline ps to)) r.players);
      jobs = λ step opening n job there. job_stays step opening old.saves new.saves _ job r.stays ((made step opening).hold.out n job (ap (λ (jobs : Slab Guessed). get jobs n) (sym r.jobs) ∙ there));
      taken = λ step opening slot.
          ap (λ (there : Elsewhere Value). is_some (there.slots slot)) (carried_on step opening)
          ∙ roll_some step old.at start old.taken held row slots (carried_out step opening (past ++ old.requests)) r.free.rising (l.taken step opening) r.were slot
          ∙ sym (r.filled slot);
    }
  where
    row : ℕ → List Cell
    row = λ k. row_at old.saves.inputs.players (from + k)

    carried_on : (step : Step) (opening : Value) → carried_out step opening (past ++ new.requests) ≡ carried_all step (roll_requests old.at start old.taken held row slots) (carried_out step opening (past ++ old.requests))
    carried_on step opening =
        let more : List Request = roll_requests old.at start old.taken held row slots in
        ap (carried_out step opening) (ap (λ (q : List Request). past ++ q) r.list_is ∙ sym (append_assoc past old.requests more))
        ∙ carried_append step (past ++ old.requests) more (first opening)

    made : (step : Step) (opening : Value) → IsRolled step opening old.saves old.jobs old.limit held slots r.are r.free from start (carried_out step opening (past ++ new.requests))
    made step opening =
        let before : Elsewhere Value = carried_out step opening (past ++ old.requests) in
        subst (IsRolled step opening old.saves old.jobs old.limit held slots r.are r.free from start) (sym (carried_on step opening))
        (rolled step opening old.saves old.jobs old.limit held slots r.are r.free old.at from start old.taken before (l.there step opening).at_is r.is_held (r.here step opening before.slots (l.there step opening).held) (hold_of past old l step opening))

-- what is handed out is carried out before the rest
pub leads_given : (e : Asked) (n : ℕ) (past : List Request) → Leads past e → Leads (past ++ take n e.requests) (record e { requests = drop n e.requests })
leads_given e n past l =
    let whole : (past ++ take n e.requests) ++ drop n e.requests ≡ past ++ e.requests = append_assoc past (take n e.requests) (drop n e.requests) ∙ ap (λ (r : List Request). past ++ r) (take-append-drop n e.requests) in
    record {
      there = λ step opening. rw whole (l.there step opening);
      shown = λ step opening. rw whole (l.shown step opening);
      jobs = λ step opening. rw whole (l.jobs step opening);
      taken = λ step opening. rw whole (l.taken step opening);
    }

-- a job that goes leaves the others
pub taken_left : (states : List (Saved ℕ)) (old new : Slab Guessed) (at key : ℕ) (taken : List Bool) → Updates old new key None → IsSlotted states old at taken → IsSlotted states new at taken
taken_left states old new at key taken u s =
    record {
      are = record { saved = s.are.saved; out = λ n job there. s.are.out n job (jobs_left old new key u n job there) };
      own = own_left states old new key u s.own;
      current = s.current;
    }

pub leads_left : (old : Asked) (jobs : Slab Guessed) (key : ℕ) → Updates old.jobs jobs key None → (past : List Request) → Leads past old → Leads past (record old { jobs = jobs })
leads_left old jobs key u =
    leads_same old (record old { jobs = jobs }) refl refl (same_taken old.taken old.taken refl) refl (λ step opening slots h. record { saved = h.saved; out = λ n job there. h.out n job (jobs_left old.jobs jobs key u n job there) })

-- what a graft says of a session
pub record IsGraft (result : Result Grafted Refusal) (old new : Bare ℕ) (job : Guessed) : Type 0 where
  pub log : FollowsLog still old.seen
  pub before : old.saves.inputs ≡ inputs_of old.seen.settings old.seen.core
  pub after : new.saves.inputs ≡ inputs_of new.seen.settings new.seen.core
  pub accepted : OnOk result (graft_refusal still old.seen (bare_branch 0 job.route) ≡ None)
  pub taken : OnOk result (new.seen ≡ after_graft old.seen (bare_branch 0 job.route))
  pub keeps : OnOk result (KeepsBranch old.saves new.saves job.route job.slots)
  pub unchanged : OnErr result (new ≡ old)

stays_grafted : (old new : Seen) (route : Route) → FollowsLog still old → graft_refusal still old (bare_branch 0 route) ≡ None → new ≡ after_graft old (bare_branch 0 route) → Stays old.core new.core
stays_grafted old new route f fine taken =
    let event : CoreEvent = grafting (bare_branch 0 route) in
    subst (Stays old.core) (sym (ap (λ (s : Seen). s.core) taken))
    (stays_applied still old f event (accepted old.settings (game_of still old) old.core event refl fine))

-- after a graft, or where it is refused
pub leads_grafted : (result : Result Grafted Refusal) (old new : Bare ℕ) (at : ℕ) (requests : List Request) (limit : ℕ) (taken : List Bool) (jobs left : Slab Guessed) (key : ℕ) (job : Guessed) → IsGraft result old new job → get jobs key ≡ Some job → Updates jobs left key None
    → (past : List Request) → Leads past (record { seen = old.seen; saves = old.saves; at = at; requests = requests; limit = limit; jobs = jobs; taken = taken }) → Leads past (record { seen = new.seen; saves = new.saves; at = at; requests = requests; limit = limit; jobs = left; taken = taken })
leads_grafted (Ok grafted) old new at requests limit taken jobs left key job g there u =
    let stays : StaysIn old.saves.inputs new.saves.inputs = stays_in old.seen.settings new.seen.settings old.seen.core new.seen.core old.saves.inputs new.saves.inputs g.before g.after (stays_grafted old.seen new.seen job.route g.log g.accepted g.taken) in
    leads_same (record { seen = old.seen; saves = old.saves; at = at; requests = requests; limit = limit; jobs = jobs; taken = taken }) (record { seen = new.seen; saves = new.saves; at = at; requests = requests; limit = limit; jobs = left; taken = taken }) refl refl (same_taken taken taken refl) (ap (λ (s : Seen). s.core.shown) g.taken)
    (λ step opening slots h.
    record {
      saved = holds_branch old.saves new.saves job g.keeps step opening slots h.saved (h.out key job there);
      out = λ n other is. job_stays step opening old.saves new.saves slots other stays (h.out n other (jobs_left jobs left key u n other is));
    })
leads_grafted (Err why) old new at requests limit taken jobs left key job g there u =
    let e : Asked = record { seen = old.seen; saves = old.saves; at = at; requests = requests; limit = limit; jobs = jobs; taken = taken } in
    λ past l. subst (λ (core : Bare ℕ). Leads past (record { seen = core.seen; saves = core.saves; at = at; requests = requests; limit = limit; jobs = left; taken = taken })) (sym g.unchanged) (leads_left e left key u past l)

pub taken_grafted : (result : Result Grafted Refusal) (old new : Bare ℕ) (jobs left : Slab Guessed) (at key : ℕ) (job : Guessed) (taken : List Bool) → IsGraft result old new job → get jobs key ≡ Some job → Updates jobs left key None → IsSlotted old.saves.tree.states jobs at taken → IsSlotted new.saves.tree.states left at taken
taken_grafted (Ok grafted) old new jobs left at key job taken g there u s =
    record {
      are = record { saved = pass_branch old.saves new.saves job g.keeps (is_taken taken) s.are.saved (s.are.out key job there).slots; out = λ n other is. s.are.out n other (jobs_left jobs left key u n other is) };
      own = own_branch old.saves new.saves jobs left key job g.keeps there u s.own;
      current = s.current;
    }
taken_grafted (Err why) old new jobs left at key job taken g there u s =
    subst (λ (core : Bare ℕ). IsSlotted core.saves.tree.states left at taken) (sym g.unchanged) (taken_left old.saves.tree.states jobs left at key taken u s)

pub handed_in : (result : Result Grafted Refusal) (old new : Seen) (job : Guessed) → OnOk result (graft_refusal still old (bare_branch 0 job.route) ≡ None) → OnOk result (new ≡ after_graft old (bare_branch 0 job.route)) → IfOk result (λ grafted. grafted.added ≡ length (new_paths old.core (branch_of job.route))) → IfErr result (IsRefused (graft_refusal still old (bare_branch 0 job.route)) old new)
    → IsHandedIn old new (Some job) result
handed_in (Ok grafted) old new job accepted taken added refused = (accepted, taken, added)
handed_in (Err why) old new job accepted taken added refused = refused

-- the slots stay taken where the tree was told more of the timeline
pub slotted_told : (old new : Standing ℕ) (jobs : Slab Guessed) (at : ℕ) (taken : List Bool) → new ≡ record old { tree = record old.tree { time = new.tree.time } } → IsSlotted old.tree.states jobs at taken → IsSlotted new.tree.states jobs at taken
slotted_told old new jobs at taken saves = subst (λ (states : List (Saved ℕ)). IsSlotted states jobs at taken) (sym (ap (λ (s : Standing ℕ). s.tree.states) saves))

last_taken : (taken : List Bool) (start : ℕ) (slots : List ℕ) → IsTaken taken start → All (IsTaken taken) slots → IsTaken taken (last_or start slots)
last_taken taken start [] t all = t
last_taken taken start (slot ∷ slots) t all = all (length slots) 0 (omega arith)

-- what a session says of a roll that was planned
pub record IsDone (mid new : Bare ℕ) (call : Call) (way : Way) (room : Room) (limit : ℕ) (jobs : Slab Guessed) : Type 0 where
  pub can : CanEnter mid call way
  pub room_is : IsRoom limit mid.saves.tree.states jobs room
  pub many : length room.slots ≡ way.to - way.frame
  pub log : FollowsLog still mid.seen
  pub before : mid.saves.inputs ≡ inputs_of mid.seen.settings mid.seen.core
  pub after : new.saves.inputs ≡ inputs_of new.seen.settings new.seen.core
  pub core : new.seen.core ≡ applied mid.seen.core (entry_of call)
  pub keeps : KeepsGiven mid.saves new.saves way.frame room.slots

module _ (mid new : Bare ℕ) (call : Call) (way : Way) (room : Room) (limit : ℕ) (jobs : Slab Guessed) (d : IsDone mid new call way room limit jobs) where
  stays_done : Stays mid.seen.core new.seen.core
  stays_done =
      subst (Stays mid.seen.core) (sym d.core)
      (stays_applied still mid.seen d.log (event_of call) (accepted mid.seen.settings (game_of still mid.seen) mid.seen.core (event_of call) d.can.allowed.new d.can.allowed.accepted))

  are_done : AreTaken mid.saves.tree.states jobs room.held
  are_done = are_held mid.saves.tree.states jobs room.held d.room_is.held

  start_held : (u : Saved ℕ) → state_named mid.saves.tree way.at ≡ Some u → IsTaken room.held u.snapshot
  start_held u found = all_held (λ (v : Saved ℕ). IsTaken room.held v.snapshot) (λ v. v.name == way.at) mid.saves.tree.states u are_done.saved found

  -- no job has a slot of its own where a roll starts from
  pub start_outside : AreOwn mid.saves.tree.states jobs → (u : Saved ℕ) → state_named mid.saves.tree way.at ≡ Some u → (n : ℕ) (job : Guessed) → get jobs n ≡ Some job → IsOutside job.slots u.snapshot
  start_outside own u found n job there = all_held (λ (v : Saved ℕ). IsOutside job.slots v.snapshot) (λ v. v.name == way.at) mid.saves.tree.states u (own.saved n job there) found

  start_here : (u : Saved ℕ) → state_named mid.saves.tree way.at ≡ Some u → (step : Step) (opening : Value) (there : ℕ → Option Value) → Holds step opening mid.saves there → there u.snapshot ≡ Some (run step opening (timeline mid.saves.inputs.players way.frame))
  start_here u found step opening there h =
      let going = d.can.going in
      let players = mid.saves.inputs.players in
      let far : ℕ = mid.saves.inputs.settled in
      let T : Rows = timeline players far in
      let low : far ≤ way.frame = omega (arith, going.deepest) in
      let x = some_is (state_named mid.saves.tree way.at) (λ v. v.path ≡ rows_from players far (way.frame - far)) going.here in
      let path : u.path ≡ rows_from players far (way.frame - far) = ap (λ (v : Saved ℕ). v.path) (held_same (state_named mid.saves.tree way.at) u x.0 found x.1) ∙ x.2 in
      all_held (λ (v : Saved ℕ). there v.snapshot ≡ Some (run step opening (T ++ v.path))) (λ v. v.name == way.at) mid.saves.tree.states u h found
      ∙ ap (λ (q : Rows). Some (run step opening q)) (ap (λ (q : Rows). T ++ q) path ∙ whole players far way.frame low)

  pub done_taken : (taken : List Bool) (at : ℕ) (u : Saved ℕ) → AreOwn mid.saves.tree.states jobs → state_named mid.saves.tree way.at ≡ Some u → at ≡ last_or u.snapshot room.slots → ((k : ℕ) → IsTaken room.held k → IsTaken taken k) → All (IsTaken taken) room.slots → IsSlotted new.saves.tree.states jobs at taken
  done_taken taken at u own found is kept all =
      record {
        are = record {
          saved = pass_given mid.saves new.saves way.frame room.slots d.keeps (is_taken taken) (λ k e few. kept _ (are_done.saved k e few)) all;
          out = λ n job there. held_kept room.held taken kept job (are_done.out n job there);
        };
        own = own_given mid.saves new.saves way.frame room.slots d.keeps jobs limit room.held are_done d.room_is.free own;
        current = rw is (last_taken taken u.snapshot room.slots (kept u.snapshot (start_held u found)) all);
      }

  pub done_leads : (taken left : List Bool) (at now : ℕ) (u : Saved ℕ) (old_requests requests : List Request) → AreTaken mid.saves.tree.states jobs taken → ((k : ℕ) → is_taken left k ≡ (is_taken room.held k || is_among room.slots k)) → state_named mid.saves.tree way.at ≡ Some u → now ≡ last_or u.snapshot room.slots
      → requests ≡ old_requests ++ roll_requests at u.snapshot taken room.held (λ k. row_at mid.saves.inputs.players (way.frame + k)) room.slots
      → (past : List Request) → Leads past (record { seen = mid.seen; saves = mid.saves; at = at; requests = old_requests; limit = limit; jobs = jobs; taken = taken }) → Leads past (record { seen = new.seen; saves = new.saves; at = now; requests = requests; limit = limit; jobs = jobs; taken = left })
  done_leads taken left at now u old_requests requests were filled found is list =
      leads_rolled (record { seen = mid.seen; saves = mid.saves; at = at; requests = old_requests; limit = limit; jobs = jobs; taken = taken }) (record { seen = new.seen; saves = new.saves; at = now; requests = requests; limit = limit; jobs = jobs; taken = left }) call way.frame way.to u.snapshot room.held room.slots
      (record {
        within = d.can.going.within;
        is_to = d.can.to;
        many = d.many;
        are = are_done;
        free = d.room_is.free;
        is_held = start_held u found;
        here = start_here u found;
        list_is = list;
        at_is = is;
        jobs = refl;
        were = λ k h. needed_taken mid.saves.tree.states jobs taken k were (sym (d.room_is.held k) ∙ h);
        filled = filled;
        keeps = d.keeps;
        core = d.core;
        players = ap (λ (i : Inputs). i.players) d.before;
        stays = stays_in mid.seen.settings new.seen.settings mid.seen.core new.seen.core mid.saves.inputs new.saves.inputs d.before d.after stays_done;
      })

-- how many events there is room for says nothing of the game
pub leads_bare : (seen : Seen) (saves : Standing ℕ) (at : ℕ) (requests : List Request) (limit : ℕ) (jobs : Slab Guessed) (taken : List Bool) (reserved : ℕ) (past : List Request) → Leads past (record { seen = seen; saves = saves; at = at; requests = requests; limit = limit; jobs = jobs; taken = taken })
    → Leads past (record { seen = record seen { reserved = reserved }; saves = saves; at = at; requests = requests; limit = limit; jobs = jobs; taken = taken })
leads_bare seen saves at requests limit jobs taken reserved past l = record { there = l.there; shown = l.shown; jobs = l.jobs; taken = l.taken }

pub no_job : (jobs : Slab Guessed) (n : ℕ) (job : Guessed) → jobs.slots ≡ [] → get jobs n ≡ Some job → ⊥
no_job jobs n job none there =
    let empty : None ≡ Some job = sym (ap (λ (l : List (Option Guessed)). get_or l n None) none) ∙ there in
    absurd cc

-- at the start only the opening's slot is taken
pub first_taken : (core : Bare ℕ) (jobs : Slab Guessed) → core.saves.tree.states ≡ record { name = core.saves.tree.root; path = []; snapshot = 0 } ∷ [] → jobs.slots ≡ [] → IsSlotted core.saves.tree.states jobs 0 (true ∷ [])
first_taken core jobs alone none =
    record {
      are = record {
        saved = subst (λ (l : List (Saved ℕ)). All (λ u. IsTaken (true ∷ []) u.snapshot) l) (sym alone) (All-cons (λ (u : Saved ℕ). IsTaken (true ∷ []) u.snapshot) (record { name = core.saves.tree.root; path = []; snapshot = 0 }) [] refl (All-nil (λ (u : Saved ℕ). IsTaken (true ∷ []) u.snapshot)));
        out = λ n job there. absurd (no_job jobs n job none there);
      };
      own = record {
        saved = λ n job there. absurd (no_job jobs n job none there);
        others = λ n m job other ne there here. absurd (no_job jobs n job none there);
      };
      current = refl;
    }

pub first_leads : (settings : Settings) (core : Bare ℕ) (jobs : Slab Guessed) (requests : List Request) (limit : ℕ) → core.seen ≡ first_seen settings [] no_calls → core.saves.inputs ≡ inputs_of core.seen.settings core.seen.core → core.saves.tree.states ≡ record { name = core.saves.tree.root; path = []; snapshot = 0 } ∷ [] → jobs.slots ≡ [] → requests ≡ []
    → Leads [] (record { seen = core.seen; saves = core.saves; at = 0; requests = requests; limit = limit; jobs = jobs; taken = true ∷ [] })
first_leads settings core jobs requests limit seen inputs alone none empty =
    let first_far : settled (first_seen settings [] no_calls).core ≡ 0 = ap (λ n. longest ([] ∷ []) (timeline (first_seen settings [] no_calls).core.players n)) (least_zero (front (first_seen settings [] no_calls).core.players)) in
    let far : core.saves.inputs.settled ≡ 0 = ap (λ (i : Inputs). i.settled) inputs ∙ ap (λ (s : Seen). settled s.core) seen ∙ first_far in
    let opening_saved : Saved ℕ = record { name = core.saves.tree.root; path = []; snapshot = 0 } in
    rw empty
    (record {
      there = λ step opening.
          let P : Saved ℕ → Type 0 = λ u. (carried_out step opening []).slots u.snapshot ≡ Some (run step opening (timeline core.saves.inputs.players core.saves.inputs.settled ++ u.path)) in
          record {
            held = subst (λ (l : List (Saved ℕ)). All P l) (sym alone) (All-cons P opening_saved [] (ap (λ n. Some (run step opening (timeline core.saves.inputs.players n ++ []))) (sym far)) (All-nil P));
            at_is = refl;
          };
      shown = λ step opening. subst (λ (s : Seen). IfSome s.core.shown (λ rows. opening ≡ run step opening rows)) (sym seen) refl;
      jobs = λ step opening n job there. absurd (no_job jobs n job none there);
      taken = λ step opening. first_some opening;
    })
  where
    least_zero : (n : ℕ) → min n 0 ≡ 0
    least_zero n = omega arith
