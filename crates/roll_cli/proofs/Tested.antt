-- What a sync test says of rows, row by row.
use Rattle.std.proofs.Common.{◌≡◌, ℕ, suc, ◌+◌, ◌*◌, ◌%◌, ◌<◌, ◌≤◌, ◌==◌, List, [], ◌∷◌, ◌++◌, length, take, get_or, refl, sym, ap, ◌∙◌, subst, add-one, arith, rules, tests, false, true, length-append, length-take, map, append_assoc, append-nil, Option, Some, None}
use Rattle.std.specs.Prelude.{MatchOption, is_none, Bool}
use Rattle.std.specs.Option.{option_map_or}
use Rattle.std.proofs.Math.Seq.{take-append-add}
use Rattle.std.proofs.Math.Nat.{suc-mul}
use Rattle.std.proofs.lemmas.Grind.{flat_map-append}
use Rattle.std.proofs.lemmas.List.{take_more, take-take, get_or-take, get_or-append-add, map-append}
use Rattle.std.proofs.lemmas.Nat.{mod-mul-add}
use Rattle.roll_frame.specs.declared.row.Cell.{Cell}
use Rattle.roll_frame.specs.Cells.{Rows}
use Rattle.roll_frame.specs.Games.{Value}
use Rattle.roll_frame.specs.declared.refusal.Refusal.{Refusal}
use Rattle.roll_game.specs.Divergence.{Ran, IsReached, Diverges, NeverDiverges}
use Rattle.roll_synctest.specs.Tests.{Tested, IsRun, IsVerified, IsMismatch, Says, rows_with, start_refusal}
use Rattle.roll_synctest.specs.declared.verdict.Verdict.{Verdict}
use Rattle.roll_synctest.specs.declared.verdict.Verdict.TheVariants.{Run, Verified, Mismatch}
use Rattle.roll_text.specs.Lines.{ended, text_of}
use Rattle.roll_cli.specs.SyncTests.{AreSaid, IsMismatched, IsTold, is_startable, sync_output, verdict_line, verdict_of, verdicts_of}
use Rattle.prog_scripts.specs.Output.{refused_line}

-- rows lead on from where others led
reached-append : (ran : Ran) (x : Value) (rows : Rows) (y : Value) (more : Rows) (z : Value) → IsReached ran x rows y → IsReached ran y more z → IsReached ran x (rows ++ more) z
reached-append ran x [] y more z e next = subst (λ v. IsReached ran v more z) e next
reached-append ran x (row ∷ rows) y more z (w, led, rest) next = (w, led, reached-append ran w rows y more z rest next)

-- a test that took so many of the rows: some of them are verified, a multiple of the frames, and led to where the second run
-- is
pub record IsSoFar (ran : Ran) (opening : Value) (frames : ℕ) (rows : Rows) (test : Tested) (count : ℕ) : Type 0 where
  pub same : test.frames ≡ frames
  pub done : Rows
  pub groups : ℕ
  pub multiple : length done ≡ groups * frames
  pub verified : test.verified ≡ length done
  pub split : take count rows ≡ done ++ test.rows
  pub within : count ≤ length rows
  pub short : length test.rows < frames
  pub reached : IsReached ran opening done test.second

-- the number of a row by the groups before it
group_end : (frames groups rest : ℕ) → rest < frames → (groups * frames + rest) % frames ≡ rest
group_end frames groups rest below = mod-mul-add groups frames rest below

module _ (ran : Ran) (opening : Value) (frames : ℕ) (rows : Rows) (count : ℕ) (below : count < length rows) (old : Tested) (row : List Cell) (is : row ≡ get_or rows count []) (so : IsSoFar ran opening frames rows old count) where
  -- how many rows were taken
  counted : count ≡ length so.done + length old.rows
  counted = omega (arith, so.within, length-take count rows, ap (λ (r : Rows). length r) so.split, length-append so.done old.rows)

  with_next : take (count + 1) rows ≡ so.done ++ rows_with old row
  with_next =
      take_more rows count [] below ∙ (λ i. so.split i ++ sym is i ∷ []) ∙ append_assoc so.done old.rows (row ∷ [])

  many_with : length (rows_with old row) ≡ length old.rows + 1
  many_with = length-append old.rows (row ∷ [])

  -- with this row a group is whole
  whole_group : length old.rows + 1 ≡ frames → length (so.done ++ rows_with old row) ≡ suc so.groups * frames
  whole_group due =
      let whole : length (so.done ++ rows_with old row) ≡ length so.done + frames = omega (arith, due, length-append so.done (rows_with old row), many_with) in
      whole ∙ ap (λ n. n + frames) so.multiple ∙ sym (suc-mul so.groups frames)

  at_end : length old.rows + 1 ≡ frames → suc count % frames ≡ 0
  at_end due =
      let some : 0 < frames = omega (arith, due) in
      let number : suc count ≡ length (so.done ++ rows_with old row) + 0 = omega (arith, counted, length-append so.done (rows_with old row), many_with) in
      ap (λ n. n % frames) (number ∙ ap (λ n. n + 0) (whole_group due)) ∙ group_end frames (suc so.groups) 0 some

  module _ (new : Tested) where
    after_run : IsRun ran old new row → IsSoFar ran opening frames rows new (count + 1)
    after_run run =
        let seen_rows : new.rows ≡ rows_with old row = ap (λ (t : Tested). t.rows) run.seen in
        let seen_second : new.second ≡ old.second = ap (λ (t : Tested). t.second) run.seen in
        record {
          same = ap (λ (t : Tested). t.frames) run.seen ∙ so.same;
          done = so.done;
          groups = so.groups;
          multiple = so.multiple;
          verified = ap (λ (t : Tested). t.verified) run.seen ∙ so.verified;
          split = with_next ∙ ap (λ (r : Rows). so.done ++ r) (sym seen_rows);
          within = omega (arith, below);
          short = omega (arith, run.early, so.same, many_with, ap (λ (r : Rows). length r) seen_rows);
          reached = subst (IsReached ran opening so.done) (sym seen_second) so.reached;
        }

    run_said : IsRun ran old new row → verdict_of frames (suc count) ≡ Run
    run_said run =
        let number : suc count ≡ so.groups * frames + (length old.rows + 1) = omega (arith, counted, so.multiple) in
        let rest : suc count % frames ≡ length old.rows + 1 = ap (λ n. n % frames) number ∙ group_end frames so.groups (length old.rows + 1) (omega (arith, run.early, so.same)) in
        let some : (suc count % frames == 0) ≡ false = ap (λ n. n == 0) rest ∙ search (rules, tests) in
        rw some refl

    module _ (said : ℕ) where
      after_verified : IsVerified ran old new row said → IsSoFar ran opening frames rows new (count + 1)
      after_verified v =
          let seen_rows : new.rows ≡ [] = ap (λ (t : Tested). t.rows) v.seen in
          record {
            same = ap (λ (t : Tested). t.frames) v.seen ∙ so.same;
            done = so.done ++ rows_with old row;
            groups = suc so.groups;
            multiple = whole_group (v.due ∙ so.same);
            verified = omega (arith, ap (λ (t : Tested). t.verified) v.seen, v.count_is, v.due, so.verified, length-append so.done (rows_with old row), many_with);
            split = with_next ∙ sym (append-nil (so.done ++ rows_with old row)) ∙ ap (λ (r : Rows). (so.done ++ rows_with old row) ++ r) (sym seen_rows);
            within = omega (arith, below);
            short = omega (arith, so.short, ap (λ (r : Rows). length r) seen_rows);
            reached = reached-append ran opening so.done old.second (rows_with old row) new.second so.reached v.reached;
          }

      verified_said : IsVerified ran old new row said → verdict_of frames (suc count) ≡ Verified said
      verified_said v =
          let none : (suc count % frames == 0) ≡ true = ap (λ n. n == 0) (at_end (v.due ∙ so.same)) in
          let same : suc count ≡ said = omega (arith, counted, v.count_is, v.due, so.verified) in
          rw none (ap Verified same)

    pub mismatched : (frame : ℕ) → IsMismatch ran old new row frame → IsMismatched ran opening frames rows count frame
    mismatched frame m =
        let at : frame ≡ length so.done + m.place = omega (arith, m.frame_is, so.verified) in
        let last : length old.rows + 1 ≡ frames = m.due ∙ so.same in
        let below_next : frame ≤ count + 1 = omega (arith, at, m.within, last, so.same, counted) in
        let front : take frame rows ≡ so.done ++ take m.place (rows_with old row) =
        sym (take-take frame (count + 1) rows below_next) ∙ (λ i. take (at i) (with_next i)) ∙ take-append-add so.done (rows_with old row) m.place in
        let there : get_or rows frame [] ≡ get_or (rows_with old row) m.place [] =
        sym (get_or-take (count + 1) rows frame [] (omega (arith, at, m.within, last, so.same, counted))) ∙ (λ i. get_or (with_next i) (at i) []) ∙ get_or-append-add so.done (rows_with old row) m.place [] in
        record {
          within = below;
          due = ap (λ n. n % frames) (add-one count) ∙ at_end last;
          reached = omega (arith, at, m.within, last, so.same, counted);
          late = omega (arith, at, last, counted);
          before = m.before;
          agreed = subst (λ (r : Rows). IsReached ran opening r m.before) (sym front) (reached-append ran opening so.done old.second (take m.place (rows_with old row)) m.before so.reached m.agreed);
          differs = subst (λ (r : List Cell). Diverges ran m.before (r ∷ [])) (sym there) m.differs;
        }

  -- a verdict that is no mismatch
  pub went_on : (new : Tested) (verdict : Verdict) → Says ran old new row verdict → ((frame : ℕ) → verdict ≡ Mismatch frame → ⊥) → IsSoFar ran opening frames rows new (count + 1) × (verdict_of frames (suc count) ≡ verdict)
  went_on new Run says apart = (after_run new says, run_said new says)
  went_on new (Verified said) says apart = (after_verified new said says, verified_said new said says)
  went_on new (Mismatch frame) says apart = absurd (apart frame refl)

-- one verdict more is said
pub said_more : (verdicts : List Verdict) (verdict : Verdict) → text_of (map verdict_line (verdicts ++ verdict ∷ [])) ≡ text_of (map verdict_line verdicts) ++ ended (verdict_line verdict)
said_more verdicts verdict =
    ap text_of (map-append verdict_line verdicts (verdict ∷ [])) ∙ flat_map-append ended (map verdict_line verdicts) (verdict_line verdict ∷ [])
    ∙ ap (λ t. text_of (map verdict_line verdicts) ++ t) (append-nil (ended (verdict_line verdict)))

-- where rows never lead to two different values, there is no mismatch
never_said : (ran : Ran) (opening : Value) (frames : ℕ) (rows : Rows) → NeverDiverges ran → (verdicts : List Verdict) (well : Bool) → AreSaid ran opening frames rows verdicts well → (well ≡ true) × (verdicts ≡ verdicts_of frames (length rows))
never_said ran opening frames rows never verdicts true said = (refl, said)
never_said ran opening frames rows never verdicts false said = absurd (never said.3.before (get_or rows said.1 [] ∷ []) said.3.differs)

pub told_of_game : (ran : Ran) (opening : Value) (frames : ℕ) (rows : Rows) → NeverDiverges ran → (written : List ℕ) (well : Bool) → IsTold ran opening frames rows written well
    → (written ≡ sync_output frames (length rows)) × (well ≡ is_startable frames)
told_of_game ran opening frames rows never written well told = go (start_refusal frames) told
  where
    go : (o : Option Refusal) → MatchOption o ((verdicts : List Verdict) × (written ≡ text_of (map verdict_line verdicts)) × AreSaid ran opening frames rows verdicts well) (λ why. (written ≡ ended (refused_line why)) × (well ≡ false))
        → (written ≡ option_map_or (λ why. ended (refused_line why)) o (text_of (map verdict_line (verdicts_of frames (length rows))))) × (well ≡ is_none o)
    go None h = let said = never_said ran opening frames rows never h.0 well h.2 in (h.1 ∙ ap (λ vs. text_of (map verdict_line vs)) said.1, said.0)
    go (Some why) h = h
