-- The job of a guess, from what is saved.
use Rattle.std.proofs.Common.{◌≡◌, ◌∙◌, ℕ, ◌+◌, ◌-◌, ◌<◌, ◌≤◌, List, [], ◌++◌, length, take, drop, refl, ap, sym, subst, true, false, not, Option, Some, None, Result, Ok, Err, arith, length-take, length-drop}
use Rattle.std.specs.Prelude.{◌⊎◌, ◌↔◌, option_map, IfOk, IfSome, IsNone, IsSomeAnd, OnErr, OnOk}
use Rattle.std.specs.Option.{option_map_or}
use Rattle.std.proofs.lemmas.Bool.{false≢true, lt-ltb}
use Rattle.roll_branch.specs.Routed.{Routed}
use Rattle.roll_frame.specs.Cells.{Rows}
use Rattle.roll_frame.specs.Core.{Core, settled}
use Rattle.roll_frame.specs.Events.{replay}
use Rattle.roll_frame.specs.Games.{Value}
use Rattle.roll_frame.specs.Guess.{words_tests}
use Rattle.roll_frame.specs.Inputs.{changed, player_at, with_words}
use Rattle.roll_frame.specs.Paths.{run}
use Rattle.roll_frame.specs.Timeline.{Player, timeline}
use Rattle.roll_frame.specs.declared.limits.TheConstants.{BRANCH_LIMIT, PATH_LIMIT}
use Rattle.roll_frame.specs.declared.entry.Entry.{Entry}
use Rattle.roll_frame.specs.declared.refusal.Refusal.{Refusal}
use Rattle.roll_frame.specs.declared.route.Route.{Route}
use Rattle.roll_frame.specs.declared.settings.Settings.{Settings}
use Rattle.roll_frame.proofs.Refused.{all_fail, in_range}
use Rattle.roll_inputs.specs.Boards.{Inputs, guess_refusal}
use Rattle.roll_game.specs.Counts.{counted}
use Rattle.roll_game.specs.declared.counts.Call.TheVariants.{Copy}
use Rattle.roll_game.specs.declared.counts.Counts.{Counts}
use Rattle.roll_laws.proofs.Ahead.{AllLater}
use Rattle.roll_laws.proofs.Glue.{always_holds}
use Rattle.roll_laws.proofs.Jobs.{guess_later}
use Rattle.roll_laws.proofs.Sound.{Sound, sound_played}
use Rattle.roll_plan.specs.Plans.{Planned}
use Rattle.roll_session.specs.Guessing.{guess_job, guessed_rows, job_along, job_from, kept_of, route_along, rows_job, IsCopied}
use Rattle.roll_session.specs.Held.{IsSession, inputs_of}
use Rattle.roll_session.specs.Saves.{HaveValues, Standing}
use Rattle.roll_session.specs.Seen.{Step}
use Rattle.roll_session.specs.Standing.{rows_from}
use Rattle.roll_session.proofs.Ahead.{job_ahead}

-- a job is made where there are rows to run
made_some : (o : Option Routed) (made : Routed) → (IsNone o → made.route.rows.items ≡ []) → IfSome o (λ job. job ≡ made) → 0 < length made.route.rows.items → o ≡ Some made
made_some None made none job some = absurd (omega (arith, ap (λ (r : Rows). length r) (none refl), some))
made_some (Some it) made none job some = ap Some job

module _ {S : Type 0} (s : Standing S) (rows : Rows) (route : Route) (from : Value) (route_is : route ≡ route_along s rows) (below : kept_of s rows < length rows) where
  -- there is one where not all rows are kept
  made_one : (o : Option Routed) → (IsNone o ↔ (route.rows.items ≡ [])) → IfSome o (λ job. job ≡ record { ticket = 0; route = route; from = from }) → o ≡ Some (record { ticket = 0; route = route; from = from })
  made_one o none job =
      let some : 0 < length route.rows.items =
      omega (arith, below, ap (λ (r : Route). length r.rows.items) route_is, length-take BRANCH_LIMIT (drop (kept_of s rows) rows), length-drop (kept_of s rows) rows) in
      made_some o (record { ticket = 0; route = route; from = from }) none.0 job some

  module _ (r : Result (Option Routed) Refusal) (none : IfOk r (λ o. IsNone o ↔ (route.rows.items ≡ []))) (job : IfOk r (λ o. IfSome o (λ job. job ≡ record { ticket = 0; route = route; from = from }))) where
    pub made_along : (step : Step) (V : Value → Type 0) → ((opening : Value) → V opening → from ≡ run step opening (timeline s.inputs.players s.inputs.settled ++ take (kept_of s rows) rows)) → IfOk r (λ o. (opening : Value) → V opening → o ≡ job_along step opening s rows)
    made_along step V from_is = along r none job
      where
        along : (r : Result (Option Routed) Refusal) → IfOk r (λ o. IsNone o ↔ (route.rows.items ≡ [])) → IfOk r (λ o. IfSome o (λ job. job ≡ record { ticket = 0; route = route; from = from })) → IfOk r (λ o. (opening : Value) → V opening → o ≡ job_along step opening s rows)
        along (Err why) none job = tt
        along (Ok o) none job = λ opening values.
            rw (lt-ltb (kept_of s rows) (length rows) below) (made_one o none job ∙ (λ i. Some (record { ticket = 0; route = route_is i; from = from_is opening values i })))

    pub made_copied : (old new : Counts) → OnOk r (new ≡ counted Copy true old) → OnErr r ((new ≡ old) ⊎ (new ≡ counted Copy false old)) → IsCopied old new r
    made_copied old new = copied r none job
      where
        copied : (r : Result (Option Routed) Refusal) → IfOk r (λ o. IsNone o ↔ (route.rows.items ≡ [])) → IfOk r (λ o. IfSome o (λ job. job ≡ record { ticket = 0; route = route; from = from })) → OnOk r (new ≡ counted Copy true old) → OnErr r ((new ≡ old) ⊎ (new ≡ counted Copy false old)) → IsCopied old new r
        copied (Err why) none job done refused = refused
        copied (Ok o) none job done refused = subst (λ (o : Option Routed). IsCopied old new (Ok o)) (sym (made_one o none job)) done

-- what holds where a guess is accepted
pub record MayGuess (inputs : Inputs) (p : ℕ) (words : List ℕ) (until : ℕ) : Type 0 where
  pub there : IsSomeAnd (player_at inputs.players p) (λ player. player.gone ≡ false)
  pub some : 1 ≤ length words
  pub from : inputs.settled ≤ until
  pub near : until ≤ inputs.settled + PATH_LIMIT

player_there : (o : Option Player) → not (option_map_or (λ player. true) o false) ≡ false → option_map_or (λ (player : Player). player.gone) o false ≡ false → IsSomeAnd o (λ player. player.gone ≡ false)
player_there None there stays = absurd (false≢true (sym there))
player_there (Some player) there stays = stays

pub may_guess : (inputs : Inputs) (p : ℕ) (words : List ℕ) (until : ℕ) → guess_refusal inputs p words until ≡ None → MayGuess inputs p words until
may_guess inputs p words until e =
    let tests = all_fail (words_tests inputs.players inputs.settled inputs.limit p words until) e in
    let few = in_range 1 PATH_LIMIT (length words) tests.1.1.0 in
    let end = in_range (inputs.settled + 1) (inputs.settled + PATH_LIMIT) until tests.1.1.1.0 in
    record {
      there = player_there (player_at inputs.players p) tests.0 tests.1.0;
      some = few.0;
      from = omega (arith, end.0);
      near = end.1;
    }

module _ {S N : Type 0} {state_value : S → Value} {snapshot_value : N → Value} {step : Step} {opening : Value} {settings : Settings} {log : List Entry} {saves : Standing N} {planner : Planned} {current : Option S}
    (s : IsSession state_value snapshot_value step opening settings log saves planner current) where
  abbrev pub core_of : Core
  core_of = replay settings log

  abbrev pub sound_of : Sound settings core_of
  sound_of = always_holds Sound sound_played settings (record { opening = opening; step = step }) log s.is_log

  -- a job that is told of the opening, of rows of players of whom more is known than the session was told
  pub session_ahead : (news : List Player) (until : ℕ) (rows : Rows) → AllLater core_of.players news → settled core_of ≤ until → rows ≡ rows_from news (settled core_of) (until - settled core_of)
      → job_along step opening saves rows ≡ option_map (job_from (record { opening = opening; step = step }) core_of) (rows_job core_of (timeline news until))
  session_ahead news until rows later low same =
      ap (λ (i : Inputs). job_along step opening (record { inputs = i; tree = saves.tree; room = saves.room }) rows) s.kept.inputs
      ∙ ap (job_along step opening (record { inputs = inputs_of settings core_of; tree = saves.tree; room = saves.room })) same
      ∙ job_ahead settings core_of sound_of saves.tree s.kept.kept_is saves.room news later until low step opening

  -- and a job that is made
  pub session_made : (rows : Rows) (job : Option Routed) (result : Result (Option Routed) Refusal) → job_along step opening saves rows ≡ job
      → IfOk result (λ made. (x : Value) → HaveValues snapshot_value step x (timeline saves.inputs.players saves.inputs.settled) saves.tree.states → made ≡ job_along step x saves rows)
      → IfOk result (λ made. made ≡ job)
  session_made rows job (Err why) same made = tt
  session_made rows job (Ok it) same made =
      let values = subst (λ (T : Rows). HaveValues snapshot_value step opening T saves.tree.states) (sym (ap (λ (i : Inputs). timeline i.players i.settled) s.kept.inputs)) s.kept.values in
      made opening values ∙ same

  -- that of a guess
  pub session_guessed : (p until : ℕ) (words : List ℕ) (rows : Rows) → guess_refusal saves.inputs p words until ≡ None → rows ≡ guessed_rows saves.inputs p words until
      → job_along step opening saves rows ≡ guess_job (record { opening = opening; step = step }) core_of p words until
  session_guessed p until words rows fine same =
      let fine_here = subst (λ (i : Inputs). guess_refusal i p words until ≡ None) s.kept.inputs fine in
      session_ahead (changed (with_words words) core_of.players p) until rows
      (guess_later core_of p until settings.limit words (all_fail (words_tests core_of.players (settled core_of) settings.limit p words until) fine_here))
      (may_guess (inputs_of settings core_of) p words until fine_here).from
      (same ∙ ap (λ (i : Inputs). guessed_rows i p words until) s.kept.inputs)
