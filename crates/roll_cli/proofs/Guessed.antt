-- What becomes of a guess of a script, by what its session answers.
use Rattle.std.proofs.Common.{◌≡◌, ℕ, List, refl, sym, ap, ◌∙◌, subst, length, Option, None}
use Rattle.std.specs.Prelude.{◌≢◌, unwrap_or, Result, Ok, Err}
use Rattle.std.specs.Result.{result_err}
use Rattle.roll_branch.specs.Routed.{Routed}
use Rattle.roll_frame.specs.declared.refusal.Refusal.{Refusal}
use Rattle.roll_frame.specs.declared.refusal.Refusal.TheVariants.{NoMemory}
use Rattle.roll_session.specs.Guessing.{guess_job_of, guess_refusal_of}
use Rattle.roll_session.specs.Seen.{Seen, Step}
use Rattle.prog_scripts.specs.Output.{guess_line, guessed, with_job}
use Rattle.prog_scripts.proofs.Refused.{refused_so}
use Rattle.roll_cli.specs.Playings.{Played, game_of}

-- a script that is being played, by its session and its jobs
abbrev pub played_of : Seen → List (Option Routed) → Played
played_of s jobs = record { settings = s.settings; opening = s.opening; now = record { core = s.core; jobs = jobs } }

module _ (step : Step) (old : Played) (s : Seen) (jobs : List (Option Routed)) (is : played_of s jobs ≡ old) where
  module _ (p : ℕ) (words : List ℕ) (until : ℕ) where
    abbrev Becomes : Result (Option Routed) Refusal → Type 0
    Becomes result = guessed old.settings (game_of step old) old.now.core p words until ≡ result

    by_session : (result : Result (Option Routed) Refusal) → guessed s.settings (game_of step (played_of s jobs)) s.core p words until ≡ result → Becomes result
    by_session result e = subst (λ (v : Played). guessed v.settings (game_of step v) v.now.core p words until ≡ result) is e

    -- a line of a guess, and why it is refused
    pub guess_written : (result : Result (Option Routed) Refusal) → Becomes result → guess_line (length jobs) result ≡ guess_line (length old.now.jobs) (guessed old.settings (game_of step old) old.now.core p words until)
    guess_written result e = ap (λ n. guess_line n result) (ap (λ (v : Played). length v.now.jobs) is) ∙ ap (guess_line (length old.now.jobs)) (sym e)

    pub guess_refused : (result : Result (Option Routed) Refusal) → Becomes result → result_err result ≡ result_err (guessed old.settings (game_of step old) old.now.core p words until)
    guess_refused result e = ap result_err (sym e)

    -- nothing but the game's counts and the jobs changed
    pub guess_played : (result : Result (Option Routed) Refusal) → Becomes result → (new : Seen) → new ≡ record s { counts = new.counts }
        → played_of new (with_job jobs result) ≡ record old { now = record old.now { jobs = with_job old.now.jobs (guessed old.settings (game_of step old) old.now.core p words until) } }
    guess_played result e new same =
        ap (λ (v : Seen). played_of v (with_job jobs result)) same ∙ ap (λ (v : Played). record v { now = record v.now { jobs = with_job v.now.jobs result } }) is
        ∙ ap (λ (r : Result (Option Routed) Refusal). record old { now = record old.now { jobs = with_job old.now.jobs r } }) (sym e)

    pub was_guessed : (job : Option Routed) → guess_refusal_of s p words until ≡ None → job ≡ guess_job_of step s p words until → Becomes (Ok job)
    was_guessed job fine made = by_session (Ok job) (rw fine (ap Ok (sym made)))

    pub was_refused : (why : Refusal) → why ≡ unwrap_or (guess_refusal_of s p words until) NoMemory → why ≢ NoMemory → Becomes (Err why)
    was_refused why e ne = by_session (Err why) (rw (refused_so (guess_refusal_of s p words until) why e ne) refl)
