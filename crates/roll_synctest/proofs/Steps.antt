-- What a step makes of a test.
use Rattle.std.proofs.Common.{◌≡◌, ℕ, ◌+◌, ◌<◌, ◌≤◌, List, [], ◌∷◌, ◌++◌, Option, Some, None, length, take, get_or, ap, sym, refl, ◌∙◌, subst, arith, length-append}
use Rattle.std.specs.Prelude.{IfSome}
use Rattle.std.proofs.lemmas.List.{take_more}
use Rattle.roll_frame.specs.declared.limits.TheConstants.{FRAME_LIMIT}
use Rattle.roll_frame.specs.declared.row.Cell.{Cell}
use Rattle.roll_frame.specs.Cells.{Rows}
use Rattle.roll_frame.specs.Games.{Value}
use Rattle.roll_game.specs.Counts.{rolled, stepped}
use Rattle.roll_game.specs.Divergence.{Ran, IsReached, Diverges}
use Rattle.roll_game.specs.declared.counts.Counts.{Counts}
use Rattle.roll_synctest.specs.Runs.{FirstRun, IsTrace, IsOther, value_before}
use Rattle.roll_synctest.specs.Tests.{Tested, IsAhead, IsTest, IsRun, IsVerified, IsMismatch, tested}
use Rattle.roll_synctest.proofs.Traces.{before_more, reached_more, all_reached, trace_more, value_reached}

-- the first run after one row more
abbrev pub run_on : FirstRun → List Cell → Value → FirstRun
run_on run row y = record run { state = y; rows = run.rows ++ row ∷ []; results = run.results ++ y ∷ [] }

-- where a run and a second run of its rows come apart
module _ (ran : Ran) (x : Value) (rows : Rows) (results : List Value) (place : ℕ) (trace : IsTrace ran x rows results) (o : IsOther ran x rows results place) where
  pub agreed_before : IsReached ran x (take place rows) (value_before x results place)
  agreed_before = value_reached ran x rows results trace place (omega (arith, o.within))

  pub differs_there : Diverges ran (value_before x results place) (get_or rows place [] ∷ [])
  differs_there =
      record {
        one = get_or results place [];
        other = o.other;
        one_reached = (get_or results place [], trace.steps place o.within, refl);
        other_reached = (o.other, o.ran_is, refl);
        different = o.different;
      }

  reached_by : (y : Value) → ran (value_before x results place) (get_or rows place []) y → IsReached ran x (take (place + 1) rows) y
  reached_by y r =
      rw (take_more rows place [] o.within) (reached_more ran x (take place rows) (value_before x results place) (get_or rows place []) y agreed_before r)

  pub diverges_up_to : Diverges ran x (take (place + 1) rows)
  diverges_up_to =
      record {
        one = get_or results place [];
        other = o.other;
        one_reached = reached_by (get_or results place []) (trace.steps place o.within);
        other_reached = reached_by o.other o.ran_is;
        different = o.different;
      }

module _ (ran : Ran) (frames verified : ℕ) (second : Value) (first : Option FirstRun) (run now : FirstRun) (row : List Cell) (is : Some run ≡ first) (test : IsTest ran frames verified second first) (r : ran run.state row now.state) (now_is : now ≡ run_on run row now.state) where
  ahead : IsAhead ran frames verified second run
  ahead = subst (λ o. IfSome o (IsAhead ran frames verified second)) (sym is) test.ahead

  many : length now.rows ≡ length run.rows + 1
  many = ap (λ f. length f.rows) now_is ∙ length-append run.rows (row ∷ [])

  pub trace_now : IsTrace ran second now.rows now.results
  trace_now =
      rw now_is (trace_more ran second run.rows run.results row now.state ahead.trace (subst (λ v. ran v row now.state) ahead.state r))

  pub state_now : now.state ≡ value_before second now.results (length now.rows)
  state_now =
      before_more ran second run.rows run.results row now.state ahead.trace ∙ sym (ap (λ f. value_before second f.results (length f.rows)) now_is)

  pub test_now : verified + length run.rows < FRAME_LIMIT → length now.rows < frames → IsTest ran frames verified second (Some now)
  test_now below short =
      record {
        most = test.most;
        few = test.few;
        ahead = record {
          short = short;
          room = omega (arith, ap (λ f. f.room) now_is, ahead.room);
          few = omega (arith, many, below);
          trace = trace_now;
          state = state_now;
        };
      }

  due : frames ≤ length now.rows → length run.rows + 1 ≡ frames
  due enough = omega (arith, many, enough, ahead.short)

  module _ (old : Tested) (counts counts' : Counts) (view_is : tested frames verified second first counts ≡ old) where
    old_is : old ≡ tested frames verified second (Some run) counts
    old_is = sym view_is ∙ ap (λ o. tested frames verified second o counts) (sym is)

    pub reached_now : IsReached ran second (run.rows ++ row ∷ []) now.state
    reached_now = reached_more ran second run.rows run.state row now.state (subst (IsReached ran second run.rows) (sym ahead.state) (all_reached ran second run.rows run.results ahead.trace)) r

    pub run_is : length now.rows < frames → counts' ≡ stepped 1 counts → IsRun ran old (tested frames verified second (Some now) counts') row
    run_is short counts_is =
        rw old_is (record {
          early = omega (arith, many, short);
          seen = rw (counts_is, ap (λ f. f.rows) now_is) refl;
          reached = reached_now;
        })

    pub verified_is : (again : Value) (cleared : FirstRun) → frames ≤ length now.rows → again ≡ value_before second now.results (length now.rows) → cleared ≡ record now { rows = []; results = [] } → counts' ≡ rolled (length now.rows) (stepped 1 counts) → IsVerified ran old (tested frames (verified + frames) again (Some cleared) counts') row (verified + frames)
    verified_is again cleared enough again_is cleared_is counts_is =
        let same : cleared.state ≡ again = ap (λ f. f.state) cleared_is ∙ state_now ∙ sym again_is in
        rw old_is (record {
          due = due enough;
          count_is = refl;
          seen = rw (same, counts_is, many ∙ due enough, ap (λ f. f.rows) cleared_is) refl;
          reached = subst (IsReached ran second (run.rows ++ row ∷ [])) (state_now ∙ sym again_is) reached_now;
        })

    pub mismatch_is : (place : ℕ) (left : Option FirstRun) → frames ≤ length now.rows → IsOther ran second now.rows now.results place → left ≡ None → counts' ≡ rolled (place + 1) (stepped 1 counts) → IsMismatch ran old (tested frames verified second left counts') row (verified + place)
    mismatch_is place left enough other none counts_is =
        let rows_are : now.rows ≡ run.rows ++ row ∷ [] = ap (λ f. f.rows) now_is in
        rw old_is (record {
          due = due enough;
          place = place;
          within = omega (arith, other.within, many, due enough);
          frame_is = refl;
          seen = rw (none, counts_is) refl;
          before = value_before second now.results place;
          agreed = rw rows_are at (agreed_before ran second now.rows now.results place trace_now other);
          differs = rw rows_are at (differs_there ran second now.rows now.results place trace_now other);
          diverges = rw rows_are at (diverges_up_to ran second now.rows now.results place trace_now other);
        })
