-- A job starts from a kept path that begins the guess.
use Rattle.std.proofs.Common.{◌≡◌, ℕ, ◌+◌, ◌<◌, ◌≤◌, List, ◌++◌, length, take, refl, ap, sym, ◌∙◌, Bool, true, false, Some, None, arith, inl, inr, subst, min, length, length-take}
use Rattle.std.specs.Prelude.{◌⊎◌, drop, nat_le, not, if◌then◌else◌}
use Rattle.std.proofs.lemmas.Bool.{false≢true, cases_lt, and_parts, leb-true, not-false}
use Rattle.std.proofs.lemmas.List.{take-append-drop, take_all, length-drop}
use Rattle.roll_frame.specs.Cells.{Rows}
use Rattle.roll_frame.specs.Core.{Core, settled, kept}
use Rattle.roll_frame.specs.Events.{played}
use Rattle.roll_frame.specs.Grafts.{Branch, start_of}
use Rattle.roll_frame.specs.Guess.{guess_tests, guessed_time, job_of}
use Rattle.roll_frame.specs.Inputs.{changed, with_words}
use Rattle.roll_frame.specs.Paths.{longest, contains}
use Rattle.roll_frame.specs.Timeline.{timeline, front}
use Rattle.roll_frame.specs.declared.settings.Settings.{Settings}
use Rattle.roll_frame.proofs.Beginnings.{begins}
use Rattle.roll_frame.proofs.Timelines.{length_timeline}
use Rattle.roll_frame.proofs.Refused.{AllFail, all_fail}
use Rattle.roll_laws.specs.Laws.{JobsStartKept, IsJobOf}
use Rattle.std.specs.Int.{is_in_range}
use Rattle.roll_laws.proofs.Ahead.{AllLater}
use Rattle.roll_laws.proofs.Saved.{In, has_in, in_has, longest_at_least, longest_is, take_timeline}
use Rattle.roll_laws.proofs.Fronts.{settled_is, timeline_stays}
use Rattle.roll_laws.proofs.Accepted.{found, of_player_is, changed_later, later_with_words}
use Rattle.roll_laws.proofs.Sound.{Sound, sound_played}
use Rattle.roll_laws.proofs.KeptPaths.{kept_settled, settled_kept}

-- the job of rows that begin with the settled ones, go no further than a job may, and aren't kept
job_is : (settings : Settings) (core : Core) (rows : Rows) → Sound settings core → take (settled core) rows ≡ timeline core.players (settled core) → length rows ≤ settled core + 24
    → contains (kept core) rows ≡ false → IsJobOf core rows (job_of core rows)
job_is settings core rows s e near new =
    record {
      start_kept = in_has (kept core) (start_of core (job_of core rows)) (subst (λ (q : Rows). In q (kept core)) (sym is) there);
      start_is = is;
      rows_are = refl;
      some = omega (arith, below, length-take 8 (drop deep rows), length-drop deep rows);
      few = omega (arith, length-take 8 (drop deep rows));
      base = refl;
      short = omega (arith, below, near, length-drop (settled core) (take deep rows), length-take deep rows);
    }
  where
    deep : ℕ
    deep = longest (kept core) rows

    long : length (timeline core.players (settled core)) ≡ settled core
    long = length_timeline core.players (settled core)

    low : settled core ≤ longest (kept core) rows
    low = omega (
      arith,
      long,
      longest_at_least (kept core) rows (timeline core.players (settled core)) (has_in (kept core) (timeline core.players (settled core)) (settled_kept settings core s))
          (begins rows (timeline core.players (settled core)) (sym e ∙ ap (λ n. take n rows) (sym long))),
    )

    found : In (take (longest (kept core) rows) rows) (kept core) × (longest (kept core) rows ≤ length rows)
    found = go (longest_is (kept core) rows)
      where
        go : (longest (kept core) rows ≡ 0) ⊎ (In (take (longest (kept core) rows) rows) (kept core) × (longest (kept core) rows ≤ length rows)) → In (take (longest (kept core) rows) rows) (kept core) × (longest (kept core) rows ≤ length rows)
        go (inl z) =
            let same : settled core ≡ longest (kept core) rows = omega (arith, z, low) in
            (subst (λ (n : ℕ). In (take n rows) (kept core)) same (subst (λ (q : Rows). In q (kept core)) (sym e) (has_in (kept core) (timeline core.players (settled core)) (settled_kept settings core s))), omega (arith, z))
        go (inr h) = h

    there : In (take (longest (kept core) rows) rows) (kept core)
    there = found.0

    below : longest (kept core) rows < length rows
    below = go (cases_lt (longest (kept core) rows) (length rows))
      where
        go : (longest (kept core) rows < length rows) ⊎ (length rows ≤ longest (kept core) rows) → longest (kept core) rows < length rows
        go (inl l) = l
        go (inr l) = absurd (false≢true (sym new ∙ in_has (kept core) rows (subst (λ (q : Rows). In q (kept core)) (take_all (longest (kept core) rows) rows l) there)))

    is : start_of core (job_of core rows) ≡ take (longest (kept core) rows) rows
    is =
        ap (λ (q : Rows). q ++ drop (settled core) (take (longest (kept core) rows) rows)) (sym (kept_settled settings core (take (longest (kept core) rows) rows) s (in_has (kept core) (take (longest (kept core) rows) rows) there)))
        ∙ take-append-drop (settled core) (take (longest (kept core) rows) rows)

guess_range : (core : Core) (until : ℕ) → not (is_in_range (settled core + 1) (settled core + 24) until) ≡ false → (settled core + 1 ≤ until) × (until ≤ settled core + 24)
guess_range core until h =
    let inside = and_parts (nat_le (settled core + 1) until) (nat_le until (settled core + 24)) (not-false (is_in_range (settled core + 1) (settled core + 24) until) h) in
    (leb-true (settled core + 1) until inside.0, leb-true until (settled core + 24) inside.1)

-- the players of a guess are later
pub guess_later : (core : Core) (p until limit : ℕ) (words : List ℕ) → AllFail (guess_tests limit core p words until) → AllLater core.players (changed (with_words words) core.players p)
guess_later core p until limit words h =
    let it = found (λ player. true) core.players p h.0 in
    changed_later (with_words words) core.players p it.0 it.1 (later_with_words words it.0 (of_player_is (λ player. player.gone) core.players p it.0 false it.1 h.1.0))

pub guess_begins : (settings : Settings) (core : Core) (p until : ℕ) (words : List ℕ) → Sound settings core → AllFail (guess_tests settings.limit core p words until)
    → take (settled core) (guessed_time core.players p words until) ≡ timeline core.players (settled core)
guess_begins settings core p until words s h =
    let f = settled_is core s.root in
    let bound : settled core ≤ min (front core.players) core.frame = f.0 in
    let low : settled core + 1 ≤ until = (guess_range core until h.1.1.1.0).0 in
    take_timeline (changed (with_words words) core.players p) (settled core) until (omega arith)
    ∙ timeline_stays (settled core) core.players (changed (with_words words) core.players p) (guess_later core p until settings.limit words h) (omega arith)

-- a guess ends at most 24 rows past the settled frame
pub guess_near : (core : Core) (p until limit : ℕ) (words : List ℕ) → AllFail (guess_tests limit core p words until) → length (guessed_time core.players p words until) ≤ settled core + 24
guess_near core p until limit words h = omega (arith, length_timeline (changed (with_words words) core.players p) until, (guess_range core until h.1.1.1.0).1)

made_job : (core : Core) (rows : Rows) (job : Branch) → (if contains (kept core) rows then None else Some (job_of core rows)) ≡ Some job → (contains (kept core) rows ≡ false) × (job_of core rows ≡ job)
made_job core rows job = go (contains (kept core) rows) refl
  where
    none : None ≡ Some job → ⊥
    none e = cc

    the : (a b : Branch) → Some a ≡ Some b → a ≡ b
    the a b e = cc

    go : (b : Bool) → contains (kept core) rows ≡ b → (if b then None else Some (job_of core rows)) ≡ Some job → (contains (kept core) rows ≡ false) × (job_of core rows ≡ job)
    go true c e = absurd (none e)
    go false c e = (c, the (job_of core rows) job e)

pub jobs_start_kept : JobsStartKept
jobs_start_kept settings game events ok p until words job h j =
    let core : Core = played settings game events in
    let rows : Rows = guessed_time core.players p words until in
    let s = sound_played settings game events ok in
    let tests = all_fail (guess_tests settings.limit core p words until) h in
    let made = made_job core rows job j in
    subst (IsJobOf core rows) made.1
    (job_is settings core rows s (guess_begins settings core p until words s tests) (guess_near core p until settings.limit words tests) made.0)
