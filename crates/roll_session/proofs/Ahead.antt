-- The rows of players of whom more is known than a session was told: what is kept of them, and their job.
use Rattle.std.proofs.Common.{◌≡◌, ◌∙◌, ℕ, ◌+◌, ◌-◌, ◌<◌, ◌≤◌, List, ◌++◌, length, take, drop, refl, ap, sym, subst, true, false, Some, arith, inl, inr, length-take, length-append}
use Rattle.std.specs.Prelude.{◌⊎◌, option_map}
use Rattle.std.proofs.Math.Seq.{drop-append-add, take-append-add, take-append_seam}
use Rattle.std.proofs.lemmas.Bool.{cases_lt, false_from_ne_true, lt-ltb, le-ltb}
use Rattle.std.proofs.lemmas.List.{take_all}
use Rattle.roll_frame.specs.Cells.{Rows}
use Rattle.roll_frame.specs.Core.{Core, cost, is_possible, kept, settled}
use Rattle.roll_frame.specs.Games.{Value}
use Rattle.roll_frame.specs.Paths.{begins_with, contains, longest, run}
use Rattle.roll_frame.specs.Timeline.{Player, timeline}
use Rattle.roll_frame.specs.declared.limits.TheConstants.{BRANCH_LIMIT}
use Rattle.roll_frame.specs.declared.settings.Settings.{Settings}
use Rattle.roll_frame.proofs.Beginnings.{begins}
use Rattle.roll_frame.proofs.Timelines.{length_timeline}
use Rattle.roll_laws.proofs.Ahead.{AllLater, fits_before}
use Rattle.roll_laws.proofs.Fronts.{settled_is, timeline_stays}
use Rattle.roll_laws.proofs.Grafted.{longest_kept, take_begins}
use Rattle.roll_laws.proofs.KeptPaths.{live_kept, settled_kept}
use Rattle.roll_laws.proofs.Known.{on_time_fits, possible_from_fits}
use Rattle.roll_laws.proofs.Saved.{In, has_in, longest_at_least, longest_is, timeline_on_time}
use Rattle.roll_laws.proofs.Sound.{Sound, in_kept, possible_take}
use Rattle.roll_tree.specs.SavedStates.{SavedStates, paths_of}
use Rattle.roll_session.specs.Guessing.{job_along, job_from, kept_of, rows_job}
use Rattle.roll_session.specs.Held.{inputs_of}
use Rattle.roll_session.specs.Saves.{Standing}
use Rattle.roll_session.specs.Seen.{Step}
use Rattle.roll_session.specs.Standing.{from_start, rows_from, settled_rows}
use Rattle.roll_session.proofs.Rows.{longest_on, settled-rows_from}
use Rattle.roll_session.proofs.Settles.{start_root}

module _ {N : Type 0} (settings : Settings) (core : Core) (sound : Sound settings core) (tree : SavedStates N) (kept_is : from_start (settled_rows core) (paths_of tree) ≡ kept core) (room : ℕ)
    (news : List Player) (later : AllLater core.players news) (until : ℕ) (low : settled core ≤ until) where
  abbrev here : Standing N
  here = record { inputs = inputs_of settings core; tree = tree; room = room }

  -- the rows, from frame 0 and from the settled frame on
  abbrev w : Rows
  w = timeline news until

  abbrev R : Rows
  R = rows_from news (settled core) (until - settled core)

  split : w ≡ settled_rows core ++ R
  split =
      let end : settled core + (until - settled core) ≡ until = omega (arith, low) in
      let f = settled_is core sound.root in
      let stays = timeline_stays (settled core) core.players news later (omega (arith, f.0)) in
      ap (timeline news) (sym end) ∙ sym (settled-rows_from news (settled core) (until - settled core)) ∙ ap (λ (q : Rows). q ++ R) stays

  starts : begins_with w (settled_rows core) ≡ true
  starts = begins w (settled_rows core) (sym (ap (take (length (settled_rows core))) split ∙ take-append_seam (settled_rows core) R))

  deep : longest (kept core) w ≡ settled core + kept_of here R
  deep =
      let T = settled_rows core in
      let root = start_root T (paths_of tree) (subst (λ (qs : List Rows). In T qs) (sym kept_is) (has_in (kept core) T (settled_kept settings core sound))) in
      ap (λ (qs : List Rows). longest qs w) (sym kept_is) ∙ ap (longest (from_start T (paths_of tree))) split
      ∙ longest_on T (paths_of tree) R root ∙ ap (λ n. n + longest (paths_of tree) R) (length_timeline core.players (settled core))

  long : length w ≡ settled core + length R
  long = ap length split ∙ length-append (settled_rows core) R ∙ ap (λ n. n + length R) (length_timeline core.players (settled core))

  -- all is kept where it is, from the settled frame on
  whole_kept : length R ≤ kept_of here R → contains (kept core) w ≡ true
  whole_kept l =
      let T = settled_rows core in
      let there = longest_kept core w T (settled_kept settings core sound) starts in
      subst (λ (q : Rows). contains (kept core) q ≡ true) (take_all (longest (kept core) w) w (omega (arith, deep, long, l))) there

  some_new : kept_of here R < length R → contains (kept core) w ≡ false
  some_new l =
      false_from_ne_true (contains (kept core) w)
      (λ e. omega (arith, l, deep, long, longest_at_least (kept core) w w (has_in (kept core) w e) (begins w w (sym (take_all (length w) w (omega arith))))))

  -- the path of the job, and its rows
  path_is : drop (settled core) (take (longest (kept core) w) w) ≡ take (kept_of here R) R
  path_is =
      let T = settled_rows core in
      let place : longest (kept core) w ≡ length T + kept_of here R = omega (arith, deep, length_timeline core.players (settled core)) in
      let none : settled core ≡ length T + 0 = omega (arith, length_timeline core.players (settled core)) in
      ap (λ (q : Rows). drop (settled core) (take (longest (kept core) w) q)) split
      ∙ ap (λ n. drop (settled core) (take n (T ++ R))) place ∙ ap (drop (settled core)) (take-append-add T R (kept_of here R))
      ∙ ap (λ n. drop n (T ++ take (kept_of here R) R)) none ∙ drop-append-add T (take (kept_of here R) R) 0

  rows_are : drop (longest (kept core) w) w ≡ drop (kept_of here R) R
  rows_are =
      let T = settled_rows core in
      let place : longest (kept core) w ≡ length T + kept_of here R = omega (arith, deep, length_timeline core.players (settled core)) in
      ap (drop (longest (kept core) w)) split ∙ ap (λ n. drop n (T ++ R)) place ∙ drop-append-add T R (kept_of here R)

  -- their job is that of what is saved
  pub job_ahead : (step : Step) (opening : Value) → job_along step opening here R ≡ option_map (job_from (record { opening = opening; step = step }) core) (rows_job core w)
  job_ahead step opening = go (cases_lt (kept_of here R) (length R))
    where
      go : (kept_of here R < length R) ⊎ (length R ≤ kept_of here R) → job_along step opening here R ≡ option_map (job_from (record { opening = opening; step = step }) core) (rows_job core w)
      go (inl l) =
          let path : take (kept_of here R) R ≡ drop (settled core) (take (longest (kept core) w) w) = sym path_is in
          let rows : drop (kept_of here R) R ≡ drop (longest (kept core) w) w = sym rows_are in
          rw (lt-ltb (kept_of here R) (length R) l, some_new l)
          (λ i. Some (record {
            ticket = 0;
            route = record { path = record { base = settled core; rows = record { items = path i } }; rows = record { items = take BRANCH_LIMIT (rows i) } };
            from = run step opening (settled_rows core ++ path i);
          }))
      go (inr l) = rw (le-ltb (kept_of here R) (length R) l, whole_kept l) refl

  -- they are possible
  possible : is_possible core.players w ≡ true
  possible = possible_from_fits 0 core.players w (fits_before 0 core.players news w later (on_time_fits 0 news w (timeline_on_time news until)))

  settled_below : settled core ≤ longest (kept core) w
  settled_below = omega (arith, length_timeline core.players (settled core), longest_at_least (kept core) w (settled_rows core) (has_in (kept core) (settled_rows core) (settled_kept settings core sound)) starts)

  -- of all paths that were ever saved, the longest that begins them is kept
  kept_below : longest (kept core) w ≤ longest core.ever w
  kept_below = go (longest_is (kept core) w)
    where
      go : (longest (kept core) w ≡ 0) ⊎ (In (take (longest (kept core) w) w) (kept core) × (longest (kept core) w ≤ length w)) → longest (kept core) w ≤ longest core.ever w
      go (inl z) = omega (arith, z)
      go (inr h) =
          let n : ℕ = longest (kept core) w in
          omega (arith, h.1, length-take n w, longest_at_least core.ever w (take n w) (in_kept core (take n w) h.0) (take_begins w n h.1))

  ever_below : longest core.ever w ≤ longest (kept core) w
  ever_below = go (longest_is core.ever w) (cases_lt (longest core.ever w) (settled core))
    where
      go : (longest core.ever w ≡ 0) ⊎ (In (take (longest core.ever w) w) core.ever × (longest core.ever w ≤ length w)) → (longest core.ever w < settled core) ⊎ (settled core ≤ longest core.ever w) → longest core.ever w ≤ longest (kept core) w
      go (inl z) c = omega (arith, z)
      go (inr h) (inl l) = omega (arith, l, settled_below)
      go (inr h) (inr l) =
          let n : ℕ = longest core.ever w in
          let long : length (take n w) ≡ n = omega (arith, h.1, length-take n w) in
          let there = live_kept core (take n w) h.0 (omega (arith, long, l)) (possible_take n core.players w possible) in
          omega (arith, long, longest_at_least (kept core) w (take n w) (has_in (kept core) (take n w) there) (take_begins w n h.1))

  -- what a roll along them would cost
  pub cost_ahead : cost (record core { players = news }) until ≡ until - settled core - kept_of here R
  cost_ahead = omega (arith, kept_below, ever_below, deep)
