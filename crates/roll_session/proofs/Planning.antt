-- The plans of rolls, from the settled frame on.
use Rattle.std.proofs.Common.{◌≡◌, ℕ, suc, ◌+◌, ◌-◌, ◌≤◌, List, [], ◌∷◌, ◌++◌, length, length-take, length-drop, map, take, drop, refl, sym, ap, subst, ◌∙◌, arith, inl, inr, Option, Some, None}
use Rattle.std.specs.Prelude.{IfSome, option_map, All}
use Rattle.std.specs.List.{AllByRecursion, cons_option}
use Rattle.std.proofs.lemmas.List.{take-append-drop}
use Rattle.std.proofs.lemmas.List.Elements.{All-from_recursion}
use Rattle.std.proofs.Math.Seq.{drop-append_seam}
use Rattle.roll_frame.specs.Cells.{Rows}
use Rattle.roll_frame.specs.declared.claim.Claim.{Claim}
use Rattle.roll_frame.specs.Claims.{AreRowsOf, claim_of, differ_of, differs_from, path_from}
use Rattle.roll_frame.specs.Core.{Core, Roll, settled, kept, depth}
use Rattle.roll_frame.specs.Order.{in_order}
use Rattle.roll_frame.specs.Paths.{longest}
use Rattle.roll_frame.specs.Timeline.{Player, timeline}
use Rattle.roll_laws.proofs.Fair.{Wide, IsFair, wide_drop}
use Rattle.roll_laws.proofs.Rolls.{roll_of}
use Rattle.roll_laws.proofs.Saved.{In}
use Rattle.roll_tree.specs.SavedStates.{SavedStates, paths_of}
use Rattle.roll_plan.specs.declared.plan.Plan.{Plan}
use Rattle.roll_plan.specs.Plans.{IsClaimOf, IsPlanOf, PlannedRoll, planned_roll, roll_of as roll_of_plan}
use Rattle.roll_plan.proofs.Settled.{on, order_on}
use Rattle.roll_frame.proofs.Timelines.{length_timeline}
use Rattle.roll_frame.proofs.Sorting.{order_again}
use Rattle.roll_session.specs.Planned.{IsPlanOfRoll}
use Rattle.roll_session.specs.Standing.{from_start, as_planned, rows_from, settled_rows}

-- paths from frame 0 are the paths again past the settled rows
pub drop_from_start : (settled : Rows) (ps : List Rows) → map (drop (length settled)) (from_start settled ps) ≡ ps
drop_from_start settled [] = refl
drop_from_start settled (p ∷ ps) = λ i. drop-append_seam settled p i ∷ drop_from_start settled ps i

-- rows of the timeline up to a frame
rows_to : (players : List Player) (s m : ℕ) → s ≤ m → rows_from players s (m - s) ≡ drop s (timeline players m)
rows_to players s m l = let e : s + (m - s) ≡ m = omega arith in ap (λ n. drop s (timeline players n)) e

-- the plan of the next roll, of paths that are from the settled frame on
pub made_is : (players : ℕ) (core : Core) (m : ℕ) (ps : List Rows) → IsFair players (roll_of core m) → from_start (settled_rows core) ps ≡ kept core
    → depth core m ≡ settled core + longest ps (rows_from core.players (settled core) (m - settled core))
    → record {
      settled = settled core;
      kept = in_order ps;
      time = rows_from core.players (settled core) (m - settled core);
      from = settled core + longest ps (rows_from core.players (settled core) (m - settled core));
    } ≡ as_planned (roll_of core m)
made_is players core m ps fair paths deep =
    let low : settled core ≤ depth core m = fair.low in
    let top : depth core m ≤ m = omega (arith, fair.top, length_timeline core.players m) in
    let rows : rows_from core.players (settled core) (m - settled core) ≡ drop (settled core) (timeline core.players m) = rows_to core.players (settled core) m (omega arith) in
    let same : ps ≡ map (drop (settled core)) (kept core) =
    sym (drop_from_start (settled_rows core) ps) ∙ ap (λ n. map (drop n) (from_start (settled_rows core) ps)) (length_timeline core.players (settled core)) ∙ ap (map (drop (settled core))) paths in
    λ i. record { settled = settled core; kept = in_order (same i); time = rows i; from = sym deep i }

-- so it is the plan that is made of the tree
pub planned_roll_is : {S : Type 0} (players : ℕ) (core : Core) (m : ℕ) (ps : List Rows) (t : SavedStates S) → IsFair players (roll_of core m) → from_start (settled_rows core) ps ≡ kept core
    → depth core m ≡ settled core + longest ps (rows_from core.players (settled core) (m - settled core))
    → t.base ≡ settled core → paths_of t ≡ ps
    → planned_roll t (rows_from core.players (settled core) (m - settled core)) ≡ as_planned (roll_of core m)
planned_roll_is players core m ps t fair paths deep base own =
    let rows : Rows = rows_from core.players (settled core) (m - settled core) in
    (λ i. record { settled = base i; kept = in_order (own i); time = rows; from = base i + longest (own i) rows })
    ∙ made_is players core m ps fair paths deep

wide_rows : (n : ℕ) (rows : Rows) → Wide n rows → AreRowsOf n rows
wide_rows n rows w = All-from_recursion (λ row. length row ≡ n) rows w

-- the rows of paths are wide where those of the paths from frame 0 are
paths_wide : (n : ℕ) (settled : Rows) (ps : List Rows) → ((q : Rows) → In q (from_start settled ps) → Wide n q) → AllByRecursion (AreRowsOf n) ps
paths_wide n settled [] wide = tt
paths_wide n settled (p ∷ ps) wide = (
  wide_rows n p (subst (Wide n) (drop-append_seam settled p) (wide_drop n (length settled) (on settled p) (wide (on settled p) (inl refl)))),
  paths_wide n settled ps (λ q i. wide q (inr i)),
)

-- the rows of the next roll have a cell for each player
pub time_wide : (players : ℕ) (core : Core) (m : ℕ) → IsFair players (roll_of core m) → AreRowsOf players (rows_from core.players (settled core) (m - settled core))
time_wide players core m fair =
    let low : settled core ≤ depth core m = fair.low in
    let top : depth core m ≤ m = omega (arith, fair.top, length_timeline core.players m) in
    subst (AreRowsOf players) (sym (rows_to core.players (settled core) m (omega arith))) (wide_rows players (drop (settled core) (timeline core.players m)) (wide_drop players (settled core) (timeline core.players m) fair.rows))

-- so have those of the kept paths
pub kept_wide : (players : ℕ) (core : Core) (m : ℕ) (ps : List Rows) → IsFair players (roll_of core m) → from_start (settled_rows core) ps ≡ kept core → All (AreRowsOf players) ps
kept_wide players core m ps fair paths = All-from_recursion (AreRowsOf players) ps (paths_wide players (settled_rows core) ps (λ q i. fair.kept_rows q (subst (In q) paths i)))

-- paths whose first rows are these are those past them
from_start_drop : (s : ℕ) (settled : Rows) (qs : List Rows) → ((q : Rows) → In q qs → take s q ≡ settled) → from_start settled (map (drop s) qs) ≡ qs
from_start_drop s settled [] same = refl
from_start_drop s settled (q ∷ qs) same =
    let first : settled ++ drop s q ≡ q = ap (λ (r : Rows). r ++ drop s q) (sym (same q (inl refl))) ∙ take-append-drop s q in
    λ i. first i ∷ from_start_drop s settled qs (λ p j. same p (inr j)) i

-- a roll, its kept paths in order
abbrev pub ordered_roll : Roll → Roll
ordered_roll roll = record { from = roll.from; time = roll.time; settled = roll.settled; kept = in_order roll.kept }

-- the roll of a roll's plan is the roll, its kept paths in order
pub roll_is : (players : ℕ) (roll : Roll) → IsFair players roll → roll_of_plan (take roll.settled roll.time) (as_planned roll) ≡ ordered_roll roll
roll_is players roll fair =
    let settled : Rows = take roll.settled roll.time in
    let time : settled ++ drop roll.settled roll.time ≡ roll.time = take-append-drop roll.settled roll.time in
    let paths : map (on settled) (in_order (map (drop roll.settled) roll.kept)) ≡ in_order roll.kept =
    sym (order_on settled (map (drop roll.settled) roll.kept)) ∙ ap in_order (from_start_drop roll.settled settled roll.kept fair.kept_settled) in
    λ i. record { from = roll.from; time = time i; settled = roll.settled; kept = paths i }

differs_ordered : (roll : Roll) (s : ℕ) (ps : List Rows) → differs_from (ordered_roll roll) s ps ≡ differs_from roll s ps
differs_ordered roll s [] = refl
differs_ordered roll s (p ∷ ps) = ap (cons_option (differ_of roll s p)) (differs_ordered roll (suc s) ps)

claim_ordered : (players : ℕ) (roll : Roll) → claim_of players (ordered_roll roll) ≡ claim_of players roll
claim_ordered players roll =
    let again : in_order (in_order roll.kept) ≡ in_order roll.kept = order_again roll.kept in
    let differs : differs_from (ordered_roll roll) 0 (in_order (in_order roll.kept)) ≡ differs_from roll 0 (in_order roll.kept) =
    ap (differs_from (ordered_roll roll) 0) again ∙ differs_ordered roll 0 (in_order roll.kept) in
    λ i. record {
      players = players;
      base = roll.settled;
      time = drop roll.settled roll.time;
      kept = map (path_from roll.settled) (again i);
      from = roll.from;
      differs = differs i;
    }

-- so its claim is the roll's
pub planned_claim_is : (players : ℕ) (roll : Roll) → IsFair players roll → claim_of players (roll_of_plan (take roll.settled roll.time) (as_planned roll)) ≡ claim_of players roll
planned_claim_is players roll fair = ap (claim_of players) (roll_is players roll fair) ∙ claim_ordered players roll

settled_long : (players : ℕ) (roll : Roll) → IsFair players roll → length (take roll.settled roll.time) ≡ roll.settled
settled_long players roll fair = omega (arith, length-take roll.settled roll.time, fair.low, fair.top)

-- the claim of a roll's plan is the roll's
pub claim_is : (players : ℕ) (roll : Roll) → IsFair players roll → (claim : Claim) → IsClaimOf players (as_planned roll) claim → claim ≡ claim_of players roll
claim_is players roll fair claim is = is (take roll.settled roll.time) (settled_long players roll fair) ∙ planned_claim_is players roll fair

-- a roll's plan has its numbers, and the entries of its claim
pub plan_is : (players : ℕ) (roll : Roll) → IsFair players roll → (plan : Plan) → IsPlanOf players (as_planned roll) plan → IsPlanOfRoll players roll plan
plan_is players roll fair plan is =
    let past : length (drop roll.settled roll.time) ≡ length roll.time - roll.settled = length-drop roll.settled roll.time in
    let to : plan.to ≡ roll.settled + length (drop roll.settled roll.time) = is.to in
    let from : plan.from ≡ roll.from = is.from in
    record {
      to = omega (arith, fair.low, fair.top);
      from = from;
      rerun = omega (arith, is.rerun, fair.low, fair.top);
      differs = is.differs (take roll.settled roll.time) (settled_long players roll fair) ∙ ap (λ (c : Claim). c.differs) (planned_claim_is players roll fair);
    }

-- so is the claim that is made of it
pub seen_claim : (players : ℕ) (core_last : Option Roll) (planned : Option PlannedRoll) (claim : Claim) → planned ≡ option_map as_planned core_last → ((roll : Roll) → core_last ≡ Some roll → IsFair players roll)
    → IfSome planned (λ made. IsClaimOf players made claim) → IfSome core_last (λ roll. claim ≡ claim_of players roll)
seen_claim players None planned claim e fair told = tt
seen_claim players (Some roll) planned claim e fair told =
    claim_is players roll (fair roll refl) claim (subst (λ (o : Option PlannedRoll). IfSome o (λ made. IsClaimOf players made claim)) e told)
