-- A job of a guess is new wherever there is room.
use Rattle.std.proofs.Common.{◌≡◌, ◌⊎◌, ℕ, ◌+◌, ◌-◌, ◌≤◌, List, [], ◌∷◌, ◌++◌, length, refl, ap, sym, ◌∙◌, true, arith, take, drop, not, subst, inl, inr, length-take, length-append, append_assoc, suc}
use Rattle.std.specs.Prelude.{◌==◌, ◌&&◌, nat_lt, nat_le}
use Rattle.std.proofs.Math.Seq.{take-add, take-append_seam, take-length}
use Rattle.std.proofs.lemmas.Bool.{and_parts, and_from, le-ltb, lt-ltb, lt-leb}
use Rattle.std.proofs.lemmas.Bool.Decides.{Decides-eqb}
use Rattle.std.proofs.lemmas.List.{take-take}
use Rattle.std.proofs.lemmas.List.Folds.{list_all-append}
use Rattle.std.proofs.lemmas.Slice.Eq.{slice_eq-Decides}
use Rattle.roll_frame.specs.declared.refusal.Refusal.TheVariants.{LogFull, TreeFull}
use Rattle.roll_frame.specs.declared.row.Cell.{Cell}
use Rattle.roll_frame.specs.declared.settings.Settings.{Settings}
use Rattle.roll_frame.specs.Cells.{Rows}
use Rattle.roll_frame.specs.Core.{Core, is_possible, kept, row_possible, possible_from, settled}
use Rattle.roll_frame.specs.Events.{played}
use Rattle.roll_frame.specs.Games.{Game, Value}
use Rattle.roll_frame.specs.Grafts.{Branch, anchor, anchor_length, anchor_value, are_rows_of, graft_tests, new_paths, same_value, start_of, whole_of}
use Rattle.roll_frame.specs.Guess.{guess_tests, guessed_time}
use Rattle.roll_frame.specs.Inputs.{changed, with_words}
use Rattle.roll_frame.specs.Paths.{begins_with, contains, longest, prefixes, run}
use Rattle.roll_frame.specs.Refusals.{first_refusal}
use Rattle.roll_frame.specs.Settings.{open_to_branches}
use Rattle.roll_frame.specs.Timeline.{Player, timeline}
use Rattle.roll_frame.proofs.Beginnings.{begins, longest_within}
use Rattle.roll_frame.proofs.Refused.{AllFail, all_fail, first_refusal-behind}
use Rattle.roll_laws.specs.Grafted.{IsAllNew, JobsAreNew, kept_end, possible_end}
use Rattle.roll_laws.specs.Laws.{IsJobOf}
use Rattle.roll_laws.proofs.Ahead.{fits_before}
use Rattle.roll_laws.proofs.Few.{length_prefixes}
use Rattle.roll_laws.proofs.Grafted.{new_paths_are, possible_below, possible_few, take_begins}
use Rattle.roll_laws.proofs.Jobs.{guess_later, guess_near, jobs_start_kept}
use Rattle.roll_laws.proofs.KeptPaths.{live}
use Rattle.roll_laws.proofs.Known.{on_time_fits, possible_from_fits}
use Rattle.roll_laws.proofs.Saved.{In, has_in, longest_at_least, longest_is, timeline_on_time}
use Rattle.roll_laws.proofs.Sound.{Sound, possible_take, sound_played}

-- a guess is possible
guess_possible : (core : Core) (p until limit : ℕ) (words : List ℕ) → AllFail (guess_tests limit core p words until) → is_possible core.players (guessed_time core.players p words until) ≡ true
guess_possible core p until limit words h =
    let news : List Player = changed (with_words words) core.players p in
    possible_from_fits 0 core.players (timeline news until) (fits_before 0 core.players news (timeline news until) (guess_later core p until limit words h) (on_time_fits 0 news (timeline news until) (timeline_on_time news until)))

-- a possible path has a cell for each player in each row
row_wide : (t : ℕ) (ps : List Player) (row : List Cell) → row_possible t ps row ≡ true → length row ≡ length ps
row_wide t [] [] h = refl
row_wide t [] (c ∷ cs) h = absurd (cc h)
row_wide t (p ∷ ps) [] h = absurd (cc h)
row_wide t (p ∷ ps) (c ∷ cs) h = ap suc (row_wide t ps cs (and_parts _ (row_possible t ps cs) h).1)

rows_wide : (t : ℕ) (ps : List Player) (q : Rows) → possible_from t ps q ≡ true → are_rows_of (length ps) q ≡ true
rows_wide t ps [] h = refl
rows_wide t ps (row ∷ rows) h =
    let both = and_parts (row_possible t ps row) (possible_from (suc t) ps rows) h in
    and_from _ _ ((Decides-eqb (length row) (length ps)).1 (row_wide t ps row both.0)) (rows_wide (suc t) ps rows both.1)

-- of rows behind others, those from any place on
wide_behind : (n : ℕ) (first more rows : Rows) → are_rows_of n ((first ++ more) ++ rows) ≡ true → are_rows_of n (more ++ rows) ≡ true
wide_behind n first more rows h =
    let all : are_rows_of n (first ++ (more ++ rows)) ≡ true = subst (λ (q : Rows). are_rows_of n q ≡ true) (append_assoc first more rows) h in
    (and_parts _ _ (sym (list_all-append (λ row. length row == n) first (more ++ rows)) ∙ all)).1

same_as_itself : (x : Value) → same_value x x ≡ true
same_as_itself x = (slice_eq-Decides Decides-eqb x x (same_value x x) refl).1 refl

module _ (settings : Settings) (core : Core) (guess : Rows) (job : Branch) (s : Sound settings core) (is : IsJobOf core guess job) (possible : is_possible core.players guess ≡ true) (near : length guess ≤ settled core + 24) where
  abbrev deep : ℕ
  deep = longest (kept core) guess

  abbrev start : Rows
  start = start_of core job

  abbrev whole : Rows
  whole = whole_of core job

  whole_is : whole ≡ take (deep + 8) guess
  whole_is = ap (λ (q : Rows). q ++ job.rows) is.start_is ∙ ap (λ (q : Rows). take deep guess ++ q) is.rows_are ∙ sym (take-add deep 8 guess)

  deep_is : length start ≡ deep
  deep_is = ap (λ (q : Rows). length q) is.start_is ∙ omega (arith, length-take deep guess, longest_within (kept core) guess)

  low : settled core ≤ length start
  low = (live core start is.start_kept).1

  long : length whole ≡ length start + length job.rows
  long = length-append start job.rows

  ends : length whole ≤ settled core + 24
  ends = omega (arith, ap (λ (q : Rows). length q) whole_is, length-take (deep + 8) guess, near)

  alive : is_possible core.players whole ≡ true
  alive = subst (λ (q : Rows). is_possible core.players q ≡ true) (sym whole_is) (possible_take (deep + 8) core.players guess possible)

  -- it is new from its start on
  anchor_is : anchor core job ≡ start
  anchor_is = let place : anchor_length core job ≡ length start = omega (arith, low) in ap (λ n. take n whole) place ∙ take-append_seam start job.rows

  anchored : contains (kept core) (anchor core job) ≡ true
  anchored = subst (λ (q : Rows). contains (kept core) q ≡ true) (sym anchor_is) is.start_kept

  starts : begins_with whole start ≡ true
  starts = begins whole start (sym (take-append_seam start job.rows))

  -- none of its rows is kept
  kept_no_further : longest (kept core) whole ≤ deep
  kept_no_further = go (longest_is (kept core) whole)
    where
      go : (longest (kept core) whole ≡ 0) ⊎ (In (take (longest (kept core) whole) whole) (kept core) × (longest (kept core) whole ≤ length whole)) → longest (kept core) whole ≤ deep
      go (inl z) = omega (arith, z)
      go (inr h) =
          let n : ℕ = longest (kept core) whole in
          let within : n ≤ length (take (deep + 8) guess) = omega (arith, h.1, ap (λ (q : Rows). length q) whole_is) in
          let same : take n whole ≡ take n guess = ap (take n) whole_is ∙ take-take n (deep + 8) guess (omega (arith, within, length-take (deep + 8) guess)) in
          let at : n ≤ length guess = omega (arith, within, length-take (deep + 8) guess) in
          omega (
            arith,
            longest_at_least (kept core) guess (take n guess) (subst (λ (q : Rows). In q (kept core)) same h.0) (take_begins guess n at),
            length-take n guess,
            at,
          )

  kept_is : kept_end core job ≡ length start
  kept_is = omega (arith, kept_no_further, deep_is, longest_at_least (kept core) whole start (has_in (kept core) start is.start_kept) starts)

  -- each of its rows is possible
  possible_is : possible_end core job ≡ length whole
  possible_is =
      omega (
        arith,
        possible_few 0 core.players whole,
        possible_below 0 core.players whole (length whole) (omega arith) (subst (λ (q : Rows). is_possible core.players q ≡ true) (sym (take-length whole)) alive),
      )

  adds : new_paths core job ≡ prefixes whole (length start) (length job.rows)
  adds =
      let many : possible_end core job - kept_end core job ≡ length job.rows = omega (arith, kept_is, possible_is, long) in
      new_paths_are settings core job s anchored ∙ ap (λ n. prefixes whole n (possible_end core job - kept_end core job)) kept_is ∙ ap (prefixes whole (length start)) many

  module _ (game : Game) where
    abbrev value : Value
    value = run game.step game.opening start

    same_there : same_value (anchor_value game core value job) (run game.step game.opening (anchor core job)) ≡ true
    same_there =
        let none : anchor_length core job - length start ≡ 0 = omega (arith, low) in
        ap (λ n. same_value (run game.step value (take n job.rows)) (run game.step game.opening (anchor core job))) none
        ∙ ap (λ (q : Rows). same_value value (run game.step game.opening q)) anchor_is ∙ same_as_itself value

    abbrev most : ℕ
    most = open_to_branches settings.profile

    -- the tests but for room
    passes : AllFail (take 7 (graft_tests game most core value job))
    passes =
        let base = le-ltb (settled core) job.path.base (omega (arith, is.base)) in
        let wide = wide_behind (length core.players) (timeline core.players job.path.base) job.path.rows.items job.rows (rows_wide 0 core.players whole alive) in
        let far = le-ltb (settled core + 24) (length whole) ends in
        let late = lt-leb (length whole) (settled core) (omega (arith, long, low, is.some)) in
        let dead = subst (λ (q : Rows). is_possible core.players q ≡ true) (sym anchor_is) (live core start is.start_kept).2 in
        (base, (ap not wide, (far, (late, (ap not dead, (ap not anchored, (ap not same_there, tt)))))))

    room_is : (nat_lt 0 (length (new_paths core job)) && nat_lt most (length (kept core) + length (new_paths core job))) ≡ nat_lt most (length (kept core) + length job.rows)
    room_is =
        let many : length (new_paths core job) ≡ length job.rows = ap length adds ∙ length_prefixes whole (length start) (length job.rows) in
        rw (many, lt-ltb 0 (length job.rows) is.some) refl

    all_new : IsAllNew settings game core job
    all_new = record {
      adds = adds;
      refused = λ ticket.
          first_refusal-behind (take 7 (graft_tests game most core value job)) (drop 7 (graft_tests game most core value job) ++ (nat_le settings.log core.logged, LogFull) ∷ []) passes
          ∙ ap (λ b. first_refusal ((b, TreeFull) ∷ (nat_le settings.log core.logged, LogFull) ∷ [])) room_is;
    }

pub jobs_are_new : JobsAreNew
jobs_are_new settings others events ok game p until words job h j =
    let core : Core = played settings others events in
    let tests = all_fail (guess_tests settings.limit core p words until) h in
    all_new settings core (guessed_time core.players p words until) job (sound_played settings others events ok) (jobs_start_kept settings others events ok p until words job h j)
    (guess_possible core p until settings.limit words tests) (guess_near core p until settings.limit words tests) game
