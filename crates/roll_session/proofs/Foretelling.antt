-- Words that a session isn't told yet: the players later on, and what is to be run for them.
use Rattle.std.proofs.Common.{◌≡◌, ◌∙◌, ℕ, ◌+◌, ◌≤◌, List, [], ◌∷◌, ap, sym, subst, Option, None, arith}
use Rattle.roll_frame.specs.Cells.{Rows}
use Rattle.roll_frame.specs.Core.{cost}
use Rattle.roll_frame.specs.Events.{replay}
use Rattle.roll_frame.specs.Games.{Value}
use Rattle.roll_frame.specs.Inputs.{with_words}
use Rattle.roll_frame.specs.Refusals.{first_refusal}
use Rattle.roll_frame.specs.Timeline.{Player}
use Rattle.roll_frame.specs.declared.entry.Entry.{Entry}
use Rattle.roll_frame.specs.declared.limits.TheConstants.{PATH_LIMIT}
use Rattle.roll_frame.specs.declared.settings.Settings.{Settings}
use Rattle.roll_frame.proofs.Refused.{all_fail, first_refusal-behind, in_range}
use Rattle.roll_inputs.specs.Boards.{Inputs}
use Rattle.roll_inputs.specs.Foretold.{each_tests, foretold, foretold_refusal, foretold_tests, foretold_until_refusal, next_tests, told, until_tests}
use Rattle.roll_inputs.specs.declared.remote_word.RemoteWord.{RemoteWord}
use Rattle.roll_inputs.proofs.Refusals.{first_refusal-front}
use Rattle.roll_inputs.proofs.Told.{each_of, is_next}
use Rattle.roll_laws.proofs.Accepted.{changed_later, later_with_words}
use Rattle.roll_laws.proofs.Ahead.{AllLater, all_later_same, all_later_trans}
use Rattle.roll_laws.proofs.Fronts.{settled_is}
use Rattle.roll_plan.specs.Plans.{Planned}
use Rattle.roll_session.specs.Foretold.{foretold_core, foretold_rows, rerun_along, words_job}
use Rattle.roll_session.specs.Guessing.{job_along}
use Rattle.roll_session.specs.Held.{IsSession, inputs_of}
use Rattle.roll_session.specs.Saves.{Standing}
use Rattle.roll_session.specs.Seen.{Step}
use Rattle.roll_session.proofs.Ahead.{cost_ahead}
use Rattle.roll_session.proofs.Guessing.{core_of, session_ahead, sound_of}

-- what holds where a guess with these words is accepted
pub record MayForetell (inputs : Inputs) (words : List RemoteWord) (until : ℕ) : Type 0 where
  pub next : foretold_refusal inputs.players words ≡ None
  pub from : inputs.settled ≤ until
  pub near : until ≤ inputs.settled + PATH_LIMIT

pub may_foretell : (inputs : Inputs) (words : List RemoteWord) (until : ℕ) → foretold_until_refusal inputs words until ≡ None → MayForetell inputs words until
may_foretell inputs words until e =
    let tests = foretold_tests inputs.players words in
    let first = first_refusal-front tests (until_tests inputs.settled inputs.limit until) e in
    let rest = all_fail (until_tests inputs.settled inputs.limit until) (sym (first_refusal-behind tests (until_tests inputs.settled inputs.limit until) (all_fail tests first)) ∙ e) in
    let end = in_range (inputs.settled + 1) (inputs.settled + PATH_LIMIT) until rest.0 in
    record { next = first; from = omega (arith, end.0); near = end.1 }

-- the players are later
each_later : (players : List Player) (words : List RemoteWord) → first_refusal (each_tests players words) ≡ None → AllLater players (foretold players words)
each_later players [] e = all_later_same players
each_later players (w ∷ words) e =
    let first = first_refusal-front (next_tests players w) (each_tests (told players w) words) e in
    let next = is_next players w first in
    all_later_trans players (told players w) (foretold (told players w) words)
    (changed_later (with_words (w.word ∷ [])) players w.player next.player next.at (later_with_words (w.word ∷ []) next.player next.there))
    (each_later (told players w) words (sym (first_refusal-behind (next_tests players w) (each_tests (told players w) words) (all_fail (next_tests players w) first)) ∙ e))

pub foretold_later : (players : List Player) (words : List RemoteWord) → foretold_refusal players words ≡ None → AllLater players (foretold players words)
foretold_later players words e = each_later players words (each_of players words e)

module _ {S N : Type 0} {state_value : S → Value} {snapshot_value : N → Value} {step : Step} {opening : Value} {settings : Settings} {log : List Entry} {saves : Standing N} {planner : Planned} {current : Option S}
    (s : IsSession state_value snapshot_value step opening settings log saves planner current) (words : List RemoteWord) where
  -- the job of a guess with words that a session isn't told yet
  pub session_foretold : (until : ℕ) (rows : Rows) → foretold_until_refusal saves.inputs words until ≡ None → rows ≡ foretold_rows saves.inputs words until
      → job_along step opening saves rows ≡ words_job (record { opening = opening; step = step }) (replay settings log) words until
  session_foretold until rows fine same =
      let may = may_foretell (inputs_of settings (core_of s)) words until (subst (λ (i : Inputs). foretold_until_refusal i words until ≡ None) s.kept.inputs fine) in
      session_ahead s (foretold (core_of s).players words) until rows (foretold_later (core_of s).players words may.next) may.from
      (same ∙ ap (λ (i : Inputs). foretold_rows i words until) s.kept.inputs)

  -- how many frames a roll would run, by what is saved
  pub session_rerun : foretold_refusal saves.inputs.players words ≡ None → rerun_along saves words ≡ cost (foretold_core (replay settings log) words) (replay settings log).frame
  session_rerun fine =
      let fine_here = subst (λ (i : Inputs). foretold_refusal i.players words ≡ None) s.kept.inputs fine in
      let f = settled_is (core_of s) (sound_of s).root in
      ap (λ (i : Inputs). rerun_along (record { inputs = i; tree = saves.tree; room = saves.room }) words) s.kept.inputs
      ∙ sym (cost_ahead settings (core_of s) (sound_of s) saves.tree s.kept.kept_is saves.room (foretold (core_of s).players words) (foretold_later (core_of s).players words fine_here) (core_of s).frame (omega (arith, f.0)))
