-- A roll, one frame at a time, and what is taken down of it.
use Rattle.std.proofs.Common.{◌≡◌, ℕ, suc, ◌+◌, ◌-◌, ◌<◌, ◌≤◌, List, [], ◌∷◌, ◌++◌, length, take, refl, ap, sym, subst, ◌∙◌, arith, inl, inr, slice_get, Bool, true, false, cond, Option, Some, None}
use Rattle.std.specs.Prelude.{◌⊎◌, option_map, ◌==◌, All, IfSome, IsSome, IsSomeAnd, nat_lt, if◌then◌else◌}
use Rattle.std.specs.List.{find}
use Rattle.std.proofs.lemmas.Bool.{cases_lt}
use Rattle.std.proofs.lemmas.Bool.Decides.{nat_tests}
use Rattle.std.proofs.lemmas.Option.{slice_get_past, slice_get-get_or}
use Rattle.std.proofs.lemmas.List.Elements.{All-head, All-tail}
use Rattle.roll_frame.specs.declared.limits.TheConstants.{FRAME_LIMIT}
use Rattle.roll_frame.specs.Cells.{Rows}
use Rattle.roll_frame.specs.Claims.{AreRowsOf}
use Rattle.roll_frame.specs.Paths.{prefixes}
use Rattle.roll_frame.specs.Timeline.{Player, row_at, timeline}
use Rattle.roll_plan.specs.Plans.{CanPlan}
use Rattle.roll_tree.specs.SavedStates.{SavedStates, Saved, state_named, paths_of, time_to, with_state}
use Rattle.roll_frame.proofs.Timelines.{timeline_row, length_timeline}
use Rattle.roll_session.specs.Standing.{rows_from}
use Rattle.roll_session.proofs.Steps.{time_is}
use Rattle.roll_session.proofs.Rows.{rows_from-more, settled-rows_from, take-rows_from}

-- a settled row, where there is one
pub settled_read : (players : List Player) (settled frame : ℕ) → slice_get (timeline players settled) frame ≡ (if nat_lt frame settled then Some (row_at players frame) else None)
settled_read players settled frame = go (cases_lt frame settled)
  where
    go : (frame < settled) ⊎ (settled ≤ frame) → slice_get (timeline players settled) frame ≡ (if nat_lt frame settled then Some (row_at players frame) else None)
    go (inl below) =
        let yes : nat_lt frame settled ≡ true = grind (arith, nat_tests) in
        rw yes (slice_get-get_or (timeline players settled) frame [] (omega (arith, length_timeline players settled)) ∙ ap Some (timeline_row players settled frame [] below))
    go (inr past) =
        let no : nat_lt frame settled ≡ false = grind (arith, nat_tests) in
        rw no (slice_get_past (timeline players settled) frame (omega (arith, length_timeline players settled)))

module _ {S : Type 0} where
  -- the plan of a roll to there can be made
  pub plan_fits : (t : SavedStates S) (players : List Player) (settled to count frame : ℕ) (base : t.base ≡ settled) (told : t.time ≡ rows_from players settled (length t.time)) (from : settled ≤ to) (far : to ≤ settled + length t.time)
      → settled ≤ frame → frame ≤ FRAME_LIMIT
      → AreRowsOf count (rows_from players settled (to - settled)) → All (AreRowsOf count) (paths_of t) → CanPlan count t to
  plan_fits t players settled to count frame base told from far reached short time paths =
      let rows : time_to t to ≡ rows_from players settled (to - settled) = time_is t players settled to base told from far in
      record {
        base = omega (arith, base, reached, short);
        from = omega (arith, base, from);
        known = omega (arith, base, far);
        time = subst (AreRowsOf count) (sym rows) time;
        paths = paths;
      }

  -- what holds of all states holds of one that is held
  pub all_held : (P : Saved S → Type 0) (f : Saved S → Bool) (states : List (Saved S)) (u : Saved S) → All P states → find f states ≡ Some u → P u
  all_held P f [] u all e = absurd cc
  all_held P f (v ∷ states) u all e = go (f v) e (All-head P v states all) (all_held P f states u (All-tail P v states all))
    where
      go : (b : Bool) → cond b (Some v) (find f states) ≡ Some u → P v → (find f states ≡ Some u → P u) → P u
      go true e h rest = let same : v ≡ u = cc in subst P same h
      go false e h rest = rest e

  -- a state is found at the end, where no other has its name
  find_last : (f : Saved S → Bool) (states : List (Saved S)) (u : Saved S) → find f states ≡ None → f u ≡ true → find f (states ++ u ∷ []) ≡ Some u
  find_last f [] u e is = rw is refl
  find_last f (v ∷ states) u e is = go (f v) e (λ none. find_last f states u none is)
    where
      go : (b : Bool) → cond b (Some v) (find f states) ≡ None → (find f states ≡ None → find f (states ++ u ∷ []) ≡ Some u) → cond b (Some v) (find f (states ++ u ∷ [])) ≡ Some u
      go true e rest = absurd cc
      go false e rest = rest e

  -- the new state is held by its name
  pub held_last : (t : SavedStates S) (u : Saved S) → state_named t u.name ≡ None → state_named (with_state t u) u.name ≡ Some u
  held_last t u vacant = find_last (λ (s : Saved S). s.name == u.name) t.states u vacant (grind (arith, nat_tests))

-- one more of the timeline's prefixes
pub prefixes_more : (players : List Player) (settled to d from frame : ℕ) → from ≡ settled + d → from ≤ frame → frame < to
    → prefixes (rows_from players settled (to - settled)) d (frame + 1 - from) ≡ prefixes (rows_from players settled (to - settled)) d (frame - from) ++ rows_from players settled (frame + 1 - settled) ∷ []
prefixes_more players settled to d from frame start low high =
    let R : Rows = rows_from players settled (to - settled) in
    let more : frame + 1 - from ≡ suc (frame - from) = omega arith in
    let place : d + suc (frame - from) ≡ frame + 1 - settled = omega arith in
    ap (prefixes R d) more
    ∙ ap (λ (q : Rows). prefixes R d (frame - from) ++ q ∷ []) (ap (λ k. take k R) place ∙ take-rows_from players settled (to - settled) (frame + 1 - settled) (omega arith))

-- the rows of the next state
pub next_rows : (players : List Player) (settled frame : ℕ) → settled ≤ frame → rows_from players settled (frame - settled) ++ row_at players frame ∷ [] ≡ rows_from players settled (frame + 1 - settled)
next_rows players settled frame low =
    let here : settled + (frame - settled) ≡ frame = omega arith in
    let more : frame - settled + 1 ≡ frame + 1 - settled = omega arith in
    ap (λ k. rows_from players settled (frame - settled) ++ row_at players k ∷ []) (sym here) ∙ sym (rows_from-more players settled (frame - settled)) ∙ ap (rows_from players settled) more

-- the timeline up to a frame past the settled rows
pub whole : (players : List Player) (settled frame : ℕ) → settled ≤ frame → timeline players settled ++ rows_from players settled (frame - settled) ≡ timeline players frame
whole players settled frame low = let here : settled + (frame - settled) ≡ frame = omega arith in settled-rows_from players settled (frame - settled) ∙ ap (timeline players) here

pub some_is : {A : Type 0} (o : Option A) (P : A → Type 0) → IsSomeAnd o P → (u : A) × (o ≡ Some u) × P u
some_is None P h = absurd h
some_is (Some u) P h = (u, refl, h)

pub some_there : {A : Type 0} (o : Option A) (u : A) → o ≡ Some u → IsSome o
some_there o u e = rw e refl

pub held_same : {A : Type 0} (o : Option A) (u v : A) → o ≡ Some u → o ≡ Some v → u ≡ v
held_same o u v e h = cc (e, h)

pub if_some : {A : Type 0} (o : Option A) (u : A) (P : A → Type 0) → o ≡ Some u → IfSome o P → P u
if_some o u P e h = rw e at h

pub snapshot_is : {S : Type 0} (o : Option (Saved S)) (u : Saved S) (snapshot : S) → option_map (λ (v : Saved S). v.snapshot) o ≡ Some snapshot → o ≡ Some u → u.snapshot ≡ snapshot
snapshot_is o u snapshot h e = let same = rw e at h in cc same
