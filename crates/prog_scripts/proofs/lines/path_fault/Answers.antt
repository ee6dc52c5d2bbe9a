use Rattle.std.proofs.Common.{◌==◌, ℕ, List, Option, Some, None, IfSome, MatchOption, inr, length, map, rules, tests}
use Rattle.std.specs.List.{All}
use Rattle.std.proofs.lemmas.Iterator.Consumers.{YieldsList-at, YieldsList-turn, YieldsList-end, count_from_yields_List}
use Rattle.std.proofs.lemmas.Iterator.Splits.{YieldsList-from_slice_split}
use Rattle.std.proofs.lemmas.List.{map-append}
use Rattle.std.proofs.lemmas.List.Elements.{All-push}
use Rattle.roll_frame.specs.declared.limits.TheConstants.{PATH_LIMIT}
use Rattle.roll_cert.specs.Reading.{IsWithin}
use Rattle.prog_scripts.specs.declared.diagnosis.Diagnosis.{Diagnosis}
use Rattle.prog_scripts.specs.declared.lines.Item.TheVariants.{Row}
use Rattle.prog_scripts.specs.Diagnoses.{IsFaultAs, IsFaultOfPath, IsFit, IsPathLine, IsTrueInside, fields}
use Rattle.prog_scripts.proofs.Diagnosed.{counted, stands_at}
use Rattle.prog_scripts.proofs.Said.{path_said}
use Rattle.prog_scripts.proofs.lines.path_fault.Goals as goal

of_rows : (players : ℕ) (line : List ℕ) (said : Option Diagnosis) → MatchOption said (All (IsFit (Row players)) (fields line) × IsWithin 1 PATH_LIMIT (length (fields line))) (IsFaultOfPath players line)
    → MatchOption said (IsPathLine players line) (IsFaultOfPath players line)
of_rows players line None h = inr h
of_rows players line (Some d) h = h

pub returns-in-Some-row_fault-clause-exact : goal.returns-in-Some-row_fault-clause-exact
returns-in-Some-row_fault-clause-exact c =
    inr (
      c.in-Some.row.now,
      stands_at (fields c.args.line.now) _ _ (YieldsList-turn
          (YieldsList-at c.into_iter-row-iterator.ensures.into_iter_gives (YieldsList-from_slice_split _ (λ b. b == 32) c.args.line.now c.split-row-items.ensures.rest c.split-row-items.ensures.done c.split-row-items.ensures.closure (λ x r q k. search (rules, tests))))
          c.loop-row.yielded _ c.loop-row.yielded_by _ _ c.in-Some.row c.in-Some.is c.next.ensures.steps),
      c.in-Some-row_fault.ensures,
    )

pub loop-row-preserved : goal.loop-row-preserved
loop-row-preserved c =
    rw (map-append (λ row. row.now) c.loop-row.yielded) (All-push (IsFit (Row c.args.players)) (map (λ row. row.now) c.loop-row.yielded) c.in-Some.row.now c.loop-row.invariant c.in_default.ensures)

pub returns-clause-exact : goal.returns-clause-exact
returns-clause-exact c =
    let ended = YieldsList-end
    (YieldsList-at c.into_iter-row-iterator.ensures.into_iter_gives (YieldsList-from_slice_split _ (λ b. b == 32) c.args.line.now c.split-row-items.ensures.rest c.split-row-items.ensures.done c.split-row-items.ensures.closure (λ x r q k. search (rules, tests))))
    c.loop-row.yielded _ c.loop-row.yielded_by _ _ c.in-None.is c.next.ensures.steps in
    of_rows c.args.players c.args.line.now c.length_fault.result (counted (IsFit (Row c.args.players)) (IsFaultAs (Row c.args.players)) 1 PATH_LIMIT c.count.result (fields c.args.line.now) c.length_fault.result
    (count_from_yields_List _ _ c.count.ensures.ran (YieldsList-from_slice_split _ (λ b. b == 32) c.args.line.now c.split.ensures.rest c.split.ensures.done c.split.ensures.closure (λ x r q k. search (rules, tests))))
    (rw ended.0 at c.loop-row.invariant)
    c.length_fault.ensures)

said_if : (players : ℕ) (line : List ℕ) (said : Option Diagnosis) → MatchOption said (IsPathLine players line) (IsFaultOfPath players line) → IfSome said (IsTrueInside line)
said_if players line None h = tt
said_if players line (Some d) h = path_said players line d h

pub returns-in-Some-row_fault-clause-said : goal.returns-in-Some-row_fault-clause-said
returns-in-Some-row_fault-clause-said c = path_said c.args.players c.args.line.now c.in-Some-row_fault.fault (returns-in-Some-row_fault-clause-exact c)

pub returns-clause-said : goal.returns-clause-said
returns-clause-said c = said_if c.args.players c.args.line.now c.length_fault.result (returns-clause-exact c)
