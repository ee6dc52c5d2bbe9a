-- What slots have, as requests are carried out and as a session goes on.
use Rattle.std.proofs.Common.{◌≡◌, ℕ, ◌+◌, ◌<◌, ◌≤◌, List, [], ◌∷◌, ◌++◌, length, get_or, take, refl, ap, sym, subst, ◌∙◌, arith, Bool, true, false, Option, Some, None, unwrap_or, append_assoc, append-nil}
use Rattle.std.specs.Prelude.{◌&&◌, All, not}
use Rattle.std.proofs.lemmas.Bool.{false≢true}
use Rattle.std.proofs.lemmas.List.Elements.{All-weaker}
use Rattle.std.proofs.lemmas.List.Sums.{fold-append}
use Rattle.slab.specs.Slab.{Slab, get}
use Rattle.roll_frame.specs.declared.row.Cell.{Cell}
use Rattle.roll_frame.specs.Cells.{Rows}
use Rattle.roll_frame.specs.Games.{Value}
use Rattle.roll_frame.specs.Paths.{run}
use Rattle.roll_frame.specs.Timeline.{row_at, timeline}
use Rattle.roll_session.specs.Gameless.{KeepsAll, KeepsBranch, KeepsGiven, still}
use Rattle.roll_session.specs.Saves.{HaveValues, Standing}
use Rattle.roll_session.specs.Seen.{Step}
use Rattle.roll_tree.specs.SavedStates.{Saved}
use Rattle.roll_requests.specs.Asked.{rows_of_job, HasJob}
use Rattle.roll_requests.specs.Carried.{Elsewhere, carried, carried_all}
use Rattle.roll_requests.specs.Requests.{frees, job_requests, last_or, reaching, roll_requests, runs}
use Rattle.roll_requests.specs.Slotted.{is_taken, is_unheld, AreFree, AreTaken, Guessed, IsOutside, IsTaken}
use Rattle.roll_requests.specs.declared.request.Request.{Request}
use Rattle.roll_requests.specs.declared.request.Request.TheVariants.{Save, Advance, LoadAside}
use Rattle.roll_requests.proofs.Carrying.{carried_append, first_rows, freed, ran, ran_aside, reached, rows_more, time_more, IsRun}

code : Option Value → Value
code None = []
code (Some v) = 0 ∷ v

coded : Step → Step
coded step [] row = []
coded step (c ∷ v) row = c ∷ step v row

run_coded : (step : Step) (opening : Value) (rows : Rows) → run (coded step) (0 ∷ opening) rows ≡ 0 ∷ run step opening rows
unfolding coded
run_coded step opening [] = refl
run_coded step opening (row ∷ rows) = run_coded step (step opening row) rows

decoded : (o : Option Value) (v : Value) → code o ≡ 0 ∷ v → o ≡ Some v
unfolding code
decoded None v e = absurd cc
decoded (Some w) v e = let same : w ≡ v = cc e in ap Some same

is_coded : (o : Option Value) (v : Value) → o ≡ Some v → code o ≡ 0 ∷ v
unfolding code
is_coded o v e = rw e refl

-- each state's slot has what its rows lead to
abbrev pub Holds : Step → Value → Standing ℕ → (ℕ → Option Value) → Type 0
Holds step opening s slots = All (λ u. slots u.snapshot ≡ Some (run step opening (timeline s.inputs.players s.inputs.settled ++ u.path))) s.tree.states

holds_coded : (step : Step) (opening : Value) (s : Standing ℕ) (slots : ℕ → Option Value) → Holds step opening s slots → HaveValues (λ slot. code (slots slot)) (coded step) (0 ∷ opening) (timeline s.inputs.players s.inputs.settled) s.tree.states
holds_coded step opening s slots h =
    let T : Rows = timeline s.inputs.players s.inputs.settled in
    All-weaker (λ (u : Saved ℕ). slots u.snapshot ≡ Some (run step opening (T ++ u.path))) (λ (u : Saved ℕ). code (slots u.snapshot) ≡ run (coded step) (0 ∷ opening) (T ++ u.path))
    (λ u e. is_coded (slots u.snapshot) (run step opening (T ++ u.path)) e ∙ sym (run_coded step opening (T ++ u.path))) s.tree.states h

coded_holds : (step : Step) (opening : Value) (s : Standing ℕ) (slots : ℕ → Option Value) → HaveValues (λ slot. code (slots slot)) (coded step) (0 ∷ opening) (timeline s.inputs.players s.inputs.settled) s.tree.states → Holds step opening s slots
coded_holds step opening s slots h =
    let T : Rows = timeline s.inputs.players s.inputs.settled in
    All-weaker (λ (u : Saved ℕ). code (slots u.snapshot) ≡ run (coded step) (0 ∷ opening) (T ++ u.path)) (λ (u : Saved ℕ). slots u.snapshot ≡ Some (run step opening (T ++ u.path)))
    (λ u e. decoded (slots u.snapshot) (run step opening (T ++ u.path)) (e ∙ run_coded step opening (T ++ u.path))) s.tree.states h

-- what is kept of every value is kept of what slots have
pub holds_all : (old new : Standing ℕ) → KeepsAll old new → (step : Step) (opening : Value) (slots : ℕ → Option Value) → Holds step opening old slots → Holds step opening new slots
holds_all old new keeps step opening slots h =
    coded_holds step opening new slots (keeps (λ slot. code (slots slot)) (coded step) (0 ∷ opening) (holds_coded step opening old slots h))

pub holds_given : (old new : Standing ℕ) (from : ℕ) (states : List ℕ) → KeepsGiven old new from states → (step : Step) (opening : Value) (slots : ℕ → Option Value) → Holds step opening old slots
    → ((k d : ℕ) → k < length states → slots (get_or states k d) ≡ Some (run step opening (timeline old.inputs.players (from + k + 1)))) → Holds step opening new slots
holds_given old new from states keeps step opening slots h made =
    coded_holds step opening new slots (keeps (λ slot. code (slots slot)) (coded step) (0 ∷ opening) (holds_coded step opening old slots h)
    (λ k d few. let T : Rows = timeline old.inputs.players (from + k + 1) in is_coded (slots (get_or states k d)) (run step opening T) (made k d few) ∙ sym (run_coded step opening T)))

pub holds_branch : (old new : Standing ℕ) (job : Guessed) → KeepsBranch old new job.route job.slots → (step : Step) (opening : Value) (slots : ℕ → Option Value) → Holds step opening old slots → HasJob step opening old slots job → Holds step opening new slots
holds_branch old new job keeps step opening slots h j =
    coded_holds step opening new slots (keeps (λ slot. code (slots slot)) (coded step) (0 ∷ opening) (holds_coded step opening old slots h)
    (λ k d few. let rows : Rows = rows_of_job old.inputs.players job.route (k + 1) in is_coded (slots (get_or job.slots k d)) (run step opening rows) (j.held k d few) ∙ sym (run_coded step opening rows)))

-- a slot is worth nothing if it passes a test
mark : Bool → Value
mark true = []
mark false = 0 ∷ []

marked : (ℕ → Bool) → ℕ → Value
marked test slot = mark (test slot)

run_still : (rows : Rows) → run still [] rows ≡ []
run_still [] = refl
run_still (row ∷ rows) = run_still rows

is_marked : (test : ℕ → Bool) (slot : ℕ) → test slot ≡ true → marked test slot ≡ []
unfolding marked mark
is_marked test slot e = rw e refl

mark_of : (b : Bool) → mark b ≡ [] → b ≡ true
unfolding mark
mark_of true e = refl
mark_of false e = absurd cc

unmarked : (test : ℕ → Bool) (slot : ℕ) → marked test slot ≡ [] → test slot ≡ true
unfolding marked
unmarked test slot = mark_of (test slot)

-- the slots of all states pass a test
abbrev pub Pass : Standing ℕ → (ℕ → Bool) → Type 0
Pass s test = All (λ u. test u.snapshot ≡ true) s.tree.states

marked_all : (s : Standing ℕ) (test : ℕ → Bool) → Pass s test → HaveValues (marked test) still [] (timeline s.inputs.players s.inputs.settled) s.tree.states
marked_all s test h = λ k d few.
    let u : Saved ℕ = get_or s.tree.states k d in
    is_marked test u.snapshot (h k d few) ∙ sym (run_still (timeline s.inputs.players s.inputs.settled ++ u.path))

all_marked : (s : Standing ℕ) (test : ℕ → Bool) → HaveValues (marked test) still [] (timeline s.inputs.players s.inputs.settled) s.tree.states → Pass s test
all_marked s test h = λ k d few.
    let u : Saved ℕ = get_or s.tree.states k d in
    unmarked test u.snapshot (h k d few ∙ run_still (timeline s.inputs.players s.inputs.settled ++ u.path))

-- so do those of the states that are kept, and of those that come in
pub pass_all : (old new : Standing ℕ) → KeepsAll old new → (test : ℕ → Bool) → Pass old test → Pass new test
pass_all old new keeps test h = all_marked new test (keeps (marked test) still [] (marked_all old test h))

pub pass_given : (old new : Standing ℕ) (from : ℕ) (states : List ℕ) → KeepsGiven old new from states → (test : ℕ → Bool) → Pass old test → All (λ slot. test slot ≡ true) states → Pass new test
pass_given old new from states keeps test h more =
    all_marked new test (keeps (marked test) still [] (marked_all old test h) (λ k d few. is_marked test (get_or states k d) (more k d few) ∙ sym (run_still (timeline old.inputs.players (from + k + 1)))))

pub pass_branch : (old new : Standing ℕ) (job : Guessed) → KeepsBranch old new job.route job.slots → (test : ℕ → Bool) → Pass old test → All (λ slot. test slot ≡ true) job.slots → Pass new test
pass_branch old new job keeps test h out =
    all_marked new test (keeps (marked test) still [] (marked_all old test h) (λ k d few. is_marked test (get_or job.slots k d) (out k d few) ∙ sym (run_still (rows_of_job old.inputs.players job.route (k + 1)))))

-- the states and the jobs have their runs in slots
pub record Hold (step : Step) (opening : Value) (saves : Standing ℕ) (jobs : Slab Guessed) (slots : ℕ → Option Value) : Type 0 where
  pub saved : Holds step opening saves slots
  pub out : (n : ℕ) (job : Guessed) → get jobs n ≡ Some job → HasJob step opening saves slots job

-- so they do where their slots stay as they were
pub hold_moved : (step : Step) (opening : Value) (saves : Standing ℕ) (jobs : Slab Guessed) (taken : List Bool) (old new : ℕ → Option Value) → AreTaken saves.tree.states jobs taken → ((k : ℕ) → IsTaken taken k → new k ≡ old k)
    → Hold step opening saves jobs old → Hold step opening saves jobs new
hold_moved step opening saves jobs taken old new t moved h =
    record {
      saved = λ k d few. moved _ (t.saved k d few) ∙ h.saved k d few;
      out = λ n job there.
          let j = h.out n job there in
          let h = t.out n job there in
          record { base = j.base; start = moved _ h.start ∙ j.start; held = λ k d few. moved _ (h.slots k d few) ∙ j.held k d few };
    }

-- a slot that is taken is none of those that are free
pub apart : (limit : ℕ) (taken : List Bool) (slots : List ℕ) → AreFree limit taken slots → (k : ℕ) → IsTaken taken k → IsOutside slots k
apart limit taken slots free k t = λ i d few. λ same. false≢true (sym (free.free i d few) ∙ ap (is_taken taken) same ∙ t)

held_stays : (taken held : List Bool) (k : ℕ) → IsTaken held k → is_unheld taken held k ≡ false
held_stays taken held k h = go (is_taken taken k)
  where
    go : (b : Bool) → (b && not (is_taken held k)) ≡ false
    go true = rw h refl
    go false = refl

module _ (step : Step) (opening : Value) (saves : Standing ℕ) (jobs : Slab Guessed) (limit : ℕ) (held : List Bool) (slots : List ℕ) (t : AreTaken saves.tree.states jobs held) (free : AreFree limit held slots) where
  -- after a roll's requests
  pub record IsRolled (from start : ℕ) (there : Elsewhere Value) : Type 0 where
    pub hold : Hold step opening saves jobs there.slots
    pub made : (k d : ℕ) → k < length slots → there.slots (get_or slots k d) ≡ Some (run step opening (timeline saves.inputs.players (from + k + 1)))
    pub current : there.current ≡ run step opening (timeline saves.inputs.players (from + length slots))
    pub at_is : there.slots (last_or start slots) ≡ Some there.current

  rolled_on : (from start : ℕ) (there new : Elsewhere Value) → IsTaken held start → there.slots start ≡ Some there.current → there.current ≡ run step opening (timeline saves.inputs.players from) → Hold step opening saves jobs there.slots
      → IsRun step (λ k. row_at saves.inputs.players (from + k)) slots (length slots) there new → IsRolled from start new
  rolled_on from start there new is_held here current h r =
      record {
        hold = hold_moved step opening saves jobs held there.slots new.slots t (λ k is. r.others k (apart limit held slots free k is)) h;
        made = λ k d few.
            let place : from + (k + 1) ≡ from + k + 1 = omega arith in
            r.made k d few ∙ ap Some (led (k + 1)) ∙ ap (λ n. Some (run step opening (timeline saves.inputs.players n))) place;
        current = r.current ∙ led (length slots);
        at_is = last slots refl;
      }
    where
      led : (n : ℕ) → run step there.current (first_rows (λ k. row_at saves.inputs.players (from + k)) n) ≡ run step opening (timeline saves.inputs.players (from + n))
      led n =
          ap (λ v. run step v (first_rows (λ k. row_at saves.inputs.players (from + k)) n)) current
          ∙ sym (fold-append step opening (timeline saves.inputs.players from) (first_rows (λ k. row_at saves.inputs.players (from + k)) n))
          ∙ ap (run step opening) (time_more saves.inputs.players from n)

      last : (list : List ℕ) → list ≡ slots → new.slots (last_or start list) ≡ Some new.current
      last [] e =
          let none : length slots ≡ 0 = sym (ap length e) in
          let place : from ≡ from + length slots = omega (arith, none) in
          r.others start (apart limit held slots free start is_held) ∙ here
          ∙ ap Some (current ∙ ap (λ n. run step opening (timeline saves.inputs.players n)) place ∙ sym (r.current ∙ led (length slots)))
      last (slot ∷ rest) e =
          let many : length slots ≡ length rest + 1 = omega (arith, sym (ap length e)) in
          ap new.slots (ap (λ (l : List ℕ). get_or l (length rest) 0) e)
          ∙ r.made (length rest) 0 (omega (arith, many))
          ∙ ap (λ n. Some (run step there.current (first_rows (λ k. row_at saves.inputs.players (from + k)) n))) (sym many)
          ∙ ap Some (sym r.current)

  -- the requests of a roll, carried out
  pub rolled : (at from start : ℕ) (taken : List Bool) (there : Elsewhere Value) → there.slots at ≡ Some there.current → IsTaken held start → there.slots start ≡ Some (run step opening (timeline saves.inputs.players from)) → Hold step opening saves jobs there.slots
      → IsRolled from start (carried_all step (roll_requests at start taken held (λ k. row_at saves.inputs.players (from + k)) slots) there)
  rolled at from start taken there at_is is_held here h =
      let row : ℕ → List Cell = λ k. row_at saves.inputs.players (from + k) in
      let gone : ℕ → Bool = is_unheld taken held in
      let loads : List Request = reaching at start in
      let goes : List Request = frees gone (length taken) in
      let made : List Request = runs Advance Save row slots (length slots) in
      let one : Elsewhere Value = carried_all step loads there in
      let two : Elsewhere Value = carried_all step goes one in
      let a = reached step at start (run step opening (timeline saves.inputs.players from)) there at_is here in
      let b = freed step gone (length taken) one in
      let stays : (k : ℕ) → IsTaken held k → two.slots k ≡ there.slots k = λ k is. b.slots k (held_stays taken held k is) ∙ a.slots k in
      let now : two.current ≡ run step opening (timeline saves.inputs.players from) = b.current ∙ a.current in
      subst (IsRolled from start)
      (sym (carried_append step (loads ++ goes) made there ∙ ap (carried_all step made) (carried_append step loads goes there)))
      (rolled_on from start two (carried_all step made two) is_held (stays start is_held ∙ here ∙ ap Some (sym now)) now
      (hold_moved step opening saves jobs held there.slots two.slots t stays h)
      (ran step row slots free.rising (length slots) two (omega arith)))

module _ (step : Step) (opening : Value) (saves : Standing ℕ) (jobs : Slab Guessed) (limit : ℕ) (taken : List Bool) (job : Guessed) (t : AreTaken saves.tree.states jobs taken) (free : AreFree limit taken job.slots) where
  -- after the requests of a job
  pub record IsAside (there new : Elsewhere Value) : Type 0 where
    pub hold : Hold step opening saves jobs new.slots
    pub job_held : HasJob step opening saves new.slots job
    pub current : new.current ≡ there.current
    pub others : (k : ℕ) → IsTaken taken k → new.slots k ≡ there.slots k

  pub guessed : (there : Elsewhere Value) → job.route.path.base ≤ saves.inputs.settled → length job.slots ≡ length job.route.rows.items → IsTaken taken job.start → there.slots job.start ≡ Some (run step opening (rows_of_job saves.inputs.players job.route 0)) → Hold step opening saves jobs there.slots
      → IsAside there (carried_all step (job_requests job.start (λ k. get_or job.route.rows.items k []) job.slots) there)
  guessed there base many is_taken here h =
      let rows : Rows = job.route.rows.items in
      let before : Rows = timeline saves.inputs.players job.route.path.base in
      let front : Rows = rows_of_job saves.inputs.players job.route 0 in
      let one : Elsewhere Value = carried step (LoadAside job.start) there in
      let aside : one.aside ≡ run step opening front = ap (λ (o : Option Value). unwrap_or o there.current) here in
      let r = ran_aside step (λ k. get_or rows k []) job.slots free.rising (length job.slots) one (omega arith) in
      let stays : (k : ℕ) → IsTaken taken k → _ = λ k is. r.others k (apart limit taken job.slots free k is) in
      record {
        hold = hold_moved step opening saves jobs taken there.slots _ t stays h;
        job_held = record {
          base = base;
          start = stays job.start is_taken ∙ here;
          held = λ k d few.
              let whole : front ++ take (k + 1) rows ≡ rows_of_job saves.inputs.players job.route (k + 1) =
              ap (λ (q : Rows). (before ++ q) ++ take (k + 1) rows) (append-nil job.route.path.rows.items)
              ∙ append_assoc before job.route.path.rows.items (take (k + 1) rows) in
              r.made k d few
              ∙ ap (λ (q : Rows). Some (run step one.aside q)) (rows_more rows (k + 1) (omega (arith, many, few)))
              ∙ ap (λ v. Some (run step v (take (k + 1) rows))) aside
              ∙ ap Some (sym (fold-append step opening front (take (k + 1) rows)) ∙ ap (run step opening) whole);
        };
        current = r.current;
        others = stays;
      }
